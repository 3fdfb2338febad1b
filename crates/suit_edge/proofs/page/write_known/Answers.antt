use Rattle.std.proofs.Common.{inl, length, subst}
use Rattle.suit_edge.specs.Flash.{IsFlash}
use Rattle.suit_edge.specs.FlashLaws.{firm_fewer, keeps_then}
use Rattle.suit_edge.specs.Gate.{page_at}
use Rattle.suit_edge.specs.Ranges.{InSome, OutsideEach, Within}
use Rattle.suit_edge.specs.GateLaws.{gate_fewer, gated_closing, gated_opening}
use Rattle.suit_edge.proofs.page.write_known.Goals as goal

pub returns-in-Failed-clause-any_moment : goal.returns-in-Failed-clause-any_moment
returns-in-Failed-clause-any_moment g c t =
    gated_closing _ _ c.args.gate c.args.place c.args.body.now (g.met.D.Disk.obeys c.args.disk.now t) c.requires.gate c.requires.body c.requires.apart (c.requires.firm t) _ (c.shut_gate.ensures.any_moment t)

-- first the gate is closed, then the page is written
pub returns-clause-any_moment : goal.returns-clause-any_moment
returns-clause-any_moment g c t =
    let law_b = subst (IsFlash (g.D.Disk.flash c.shut_gate.new.disk)) c.shut_gate.ensures.size (g.met.D.Disk.obeys c.shut_gate.new.disk t) in
    gated_opening _ _ c.args.gate c.args.place c.args.body.now (g.met.D.Disk.obeys c.args.disk.now t) c.requires.gate c.requires.body c.requires.apart (c.requires.firm t) _ _ law_b
    (c.shut_gate.ensures.any_moment t) (c.in-Done.ensures.closes t) (c.in-Done.ensures.shut t) (c.open_written.ensures.any_moment t)

pub returns-in-Failed-clause-keeps : goal.returns-in-Failed-clause-keeps
returns-in-Failed-clause-keeps g c t = gate_fewer c.args.gate c.args.place c.args.body.now _ _ (c.shut_gate.ensures.keeps t)

pub returns-clause-keeps : goal.returns-clause-keeps
returns-clause-keeps g c t =
    keeps_then (OutsideEach (page_at c.args.gate c.args.place (length c.args.body.now))) _ _ _ _ (g.met.D.Disk.obeys c.shut_gate.new.disk t)
    (gate_fewer c.args.gate c.args.place c.args.body.now _ _ (c.shut_gate.ensures.keeps t)) (c.open_written.ensures.keeps t)

pub shut_gate-requires-clause-firm : goal.shut_gate-requires-clause-firm
shut_gate-requires-clause-firm g c t =
    firm_fewer (Within c.args.gate 1) (InSome (page_at c.args.gate c.args.place (length c.args.body.now))) (λ i there. inl there) (g.D.Disk.flash c.args.disk.now) (c.requires.firm t)
