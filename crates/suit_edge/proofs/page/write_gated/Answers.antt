use Rattle.std.proofs.Common.{length, subst}
use Rattle.suit_edge.specs.Flash.{IsFlash}
use Rattle.suit_edge.specs.FlashLaws.{firm_then, keeps_same, keeps_then}
use Rattle.suit_edge.specs.Gate.{page_at}
use Rattle.suit_edge.specs.Ranges.{InSome, OutsideEach}
use Rattle.suit_edge.specs.GateLaws.{gated_look, gated_since}
use Rattle.suit_edge.proofs.page.write_gated.Goals as goal

pub returns-in-Failed-clause-any_moment : goal.returns-in-Failed-clause-any_moment
returns-in-Failed-clause-any_moment g c t =
    gated_look _ _ c.args.gate c.args.place c.args.body.now (g.met.D.Disk.obeys c.args.disk.now t) c.requires.gate c.requires.body c.requires.apart (c.requires.firm t) _ (c.read_at.ensures.same t)

-- first the gate is read, then the page is written
pub returns-clause-any_moment : goal.returns-clause-any_moment
returns-clause-any_moment g c t =
    let law_b = subst (IsFlash (g.D.Disk.flash c.read_at.new.self)) c.read_at.ensures.size (g.met.D.Disk.obeys c.read_at.new.self t) in
    gated_since _ _ c.args.gate c.args.place c.args.body.now (g.met.D.Disk.obeys c.args.disk.now t) c.requires.gate c.requires.body c.requires.apart (c.requires.firm t) _ _ law_b
    (c.read_at.ensures.same t) (c.write_known.ensures.any_moment t)

pub returns-clause-keeps : goal.returns-clause-keeps
returns-clause-keeps g c t =
    let beside = OutsideEach (page_at c.args.gate c.args.place (length c.args.body.now)) in
    keeps_then beside _ _ _ _ (g.met.D.Disk.obeys c.read_at.new.self t) (keeps_same beside _ _ (c.read_at.ensures.same t)) (c.write_known.ensures.keeps t)

pub write_known-requires-clause-firm : goal.write_known-requires-clause-firm
write_known-requires-clause-firm g c t =
    let page = InSome (page_at c.args.gate c.args.place (length c.args.body.now)) in
    firm_then page _ _ _ (g.met.D.Disk.obeys c.read_at.new.self t) (c.requires.firm t) (keeps_same page _ _ (c.read_at.ensures.same t))
