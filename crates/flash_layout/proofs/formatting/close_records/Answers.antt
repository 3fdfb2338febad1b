use Rattle.std.proofs.Common.{ℕ, [], ◌∷◌, IsTrue, ap, subst, ◌∙◌}
use Rattle.suit_edge.specs.Flash.{Keeps}
use Rattle.suit_edge.specs.Ranges.{Outside, written}
use Rattle.suit_edge.specs.FlashLaws.{keeps_fewer, keeps_then}
use Rattle.flash_layout.specs.Frames.{record_place}
use Rattle.flash_layout.specs.FrameFacts.{facts}
use Rattle.flash_layout.specs.Formats.{OutsideRecordGates}
use Rattle.flash_layout.proofs.Gating.{both_closed}
use Rattle.flash_layout.proofs.formatting.close_records.Given as given
use Rattle.flash_layout.proofs.formatting.close_records.Goals as goal
use Rattle.flash_layout.proofs.formatting.close_records.Goals.{After-write_at, After-write_at-2}

once : (g : given.Over) (c : After-write_at g) → IsTrue g.D.Disk.told → Keeps (OutsideRecordGates c.args.frame) (g.D.Disk.flash c.args.disk.now) (g.D.Disk.flash c.write_at.new.self)
once g c t =
    let a = g.D.Disk.flash c.args.disk.now in
    let b = g.D.Disk.flash c.write_at.new.self in
    keeps_fewer (OutsideRecordGates c.args.frame) (Outside (record_place c.args.frame 0) 1) (λ i o. o.0) a b (subst (λ (p : ℕ). Keeps (Outside p 1) a b) c.record_page.ensures (c.write_at.ensures.keeps t))

twice : (g : given.Over) (c : After-write_at-2 g) → IsTrue g.D.Disk.told → Keeps (OutsideRecordGates c.args.frame) (g.D.Disk.flash c.args.disk.now) (g.D.Disk.flash c.write_at-2.new.self)
twice g c t =
    let a = g.D.Disk.flash c.args.disk.now in
    let b = g.D.Disk.flash c.write_at.new.self in
    let d = g.D.Disk.flash c.write_at-2.new.self in
    keeps_then (OutsideRecordGates c.args.frame) a b d _ (g.met.D.Disk.obeys c.write_at.new.self t)
    (keeps_fewer (OutsideRecordGates c.args.frame) (Outside (record_place c.args.frame 0) 1) (λ i o. o.0) a b (subst (λ (p : ℕ). Keeps (Outside p 1) a b) c.record_page.ensures (c.write_at.ensures.keeps t)))
    (keeps_fewer (OutsideRecordGates c.args.frame) (Outside (record_place c.args.frame 1) 1) (λ i o. o.1) b d (subst (λ (p : ℕ). Keeps (Outside p 1) b d) c.record_page-2.ensures (c.write_at-2.ensures.keeps t)))

pub returns-in-Failed-clause-keeps : goal.returns-in-Failed-clause-keeps
returns-in-Failed-clause-keeps g c = once g (goal.at.returns-in-Failed-clause-keeps g c).After-write_at

pub returns-in-Failed-write_at-clause-keeps : goal.returns-in-Failed-write_at-clause-keeps
returns-in-Failed-write_at-clause-keeps g c = twice g (goal.at.returns-in-Failed-write_at-clause-keeps g c).After-write_at-2

pub returns-in-Done-write_at-clause-keeps : goal.returns-in-Done-write_at-clause-keeps
returns-in-Done-write_at-clause-keeps g c = twice g (goal.at.returns-in-Done-write_at-clause-keeps g c).After-write_at-2

pub returns-in-Done-write_at-clause-closed : goal.returns-in-Done-write_at-clause-closed
returns-in-Done-write_at-clause-closed g c t =
    let law = g.met.D.Disk.obeys c.args.disk.now t in
    let a = (g.D.Disk.flash c.args.disk.now).reads in
    let b = (g.D.Disk.flash c.write_at.new.self).reads in
    both_closed (g.D.Disk.extent c.args.disk.now) c.args.frame (facts (g.D.Disk.extent c.args.disk.now) c.args.frame c.requires) a b _ law.fits
    (c.in-Done.ensures.written t ∙ ap (λ (p : ℕ). written a p (0 ∷ [])) c.record_page.ensures)
    (c.in-Done-write_at.ensures.written t ∙ ap (λ (p : ℕ). written b p (0 ∷ [])) c.record_page-2.ensures)
