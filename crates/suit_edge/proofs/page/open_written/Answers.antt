use Rattle.std.proofs.Common.{◌≡◌, ℕ, List, [], ◌∷◌, get_or, subst, arith, length}
use Rattle.suit_edge.specs.declared.page.TheConstants.{OPEN}
use Rattle.suit_edge.specs.EdgeLaws.{if_done_then}
use Rattle.suit_edge.specs.Flash.{IsFlash}
use Rattle.suit_edge.specs.FlashLaws.{keeps_then}
use Rattle.suit_edge.specs.Gate.{IsNewPage, IsOpen, page_at}
use Rattle.suit_edge.specs.Ranges.{OutsideEach, written}
use Rattle.suit_edge.specs.GateLaws.{body_fewer, gate_fewer, filling, gate_written, opened_page, opening}
use Rattle.suit_edge.proofs.page.open_written.Goals as goal

pub returns-in-Failed-clause-any_moment : goal.returns-in-Failed-clause-any_moment
returns-in-Failed-clause-any_moment g c t =
    filling _ _ c.args.gate c.args.place c.args.body.now (g.met.D.Disk.obeys c.args.disk.now t) c.requires.gate c.requires.body c.requires.apart _ (c.write_and_sync.ensures.keeps t)

pub returns-in-Failed-clause-keeps : goal.returns-in-Failed-clause-keeps
returns-in-Failed-clause-keeps g c t = body_fewer c.args.gate c.args.place c.args.body.now _ _ (c.write_and_sync.ensures.keeps t)

-- first the body is written, then the gate
pub returns-clause-any_moment : goal.returns-clause-any_moment
returns-clause-any_moment g c t =
    let law_b = subst (IsFlash (g.D.Disk.flash c.write_and_sync.new.disk)) c.write_and_sync.ensures.size (g.met.D.Disk.obeys c.write_and_sync.new.disk t) in
    opening _ _ c.args.gate c.args.place c.args.body.now (g.met.D.Disk.obeys c.args.disk.now t) c.requires.gate c.requires.body c.requires.apart _ _ law_b
    (c.write_and_sync.ensures.keeps t) (c.in-Done.ensures.written t) (c.in-Done.ensures.settled t) (c.write_and_sync-2.ensures.keeps t)

pub returns-clause-keeps : goal.returns-clause-keeps
returns-clause-keeps g c t =
    keeps_then (OutsideEach (page_at c.args.gate c.args.place (length c.args.body.now))) _ _ _ _ (g.met.D.Disk.obeys c.write_and_sync.new.disk t)
    (body_fewer c.args.gate c.args.place c.args.body.now _ _ (c.write_and_sync.ensures.keeps t)) (gate_fewer c.args.gate c.args.place c.args.body.now _ _ (c.write_and_sync-2.ensures.keeps t))

pub returns-clause-opened : goal.returns-clause-opened
returns-clause-opened g c t =
    let q = c.args.gate in
    let filled = g.D.Disk.flash c.write_and_sync.new.disk in
    let end = g.D.Disk.flash c.write_and_sync-2.new.disk in
    let law_b = g.met.D.Disk.obeys c.write_and_sync.new.disk t in
    if_done_then c.write_and_sync-2.result (end.reads ≡ written filled.reads q (OPEN ∷ [])) (IsOpen end.reads q) (c.write_and_sync-2.ensures.written t)
    (gate_written filled.reads end.reads q OPEN (omega (arith, law_b.fits, c.write_and_sync.ensures.size, c.requires.gate)))

pub returns-clause-page : goal.returns-clause-page
returns-clause-page g c t =
    let q = c.args.gate in
    let start = g.D.Disk.flash c.args.disk.now in
    let filled = g.D.Disk.flash c.write_and_sync.new.disk in
    let end = g.D.Disk.flash c.write_and_sync-2.new.disk in
    if_done_then c.write_and_sync-2.result (end.reads ≡ written filled.reads q (OPEN ∷ [])) (IsNewPage q c.args.place c.args.body.now start.reads end.reads) (c.write_and_sync-2.ensures.written t)
    (opened_page start _ q c.args.place c.args.body.now (g.met.D.Disk.obeys c.args.disk.now t) c.requires.gate c.requires.body c.requires.apart filled.reads end.reads
    (c.in-Done.ensures.written t))
