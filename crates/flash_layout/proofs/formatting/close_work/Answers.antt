use Rattle.std.proofs.Common.{ℕ, [], ◌∷◌, IsTrue, ap, subst, ◌∙◌}
use Rattle.suit_edge.specs.Flash.{Keeps}
use Rattle.suit_edge.specs.Ranges.{Outside, written}
use Rattle.suit_edge.specs.FlashLaws.{keeps_fewer, keeps_then}
use Rattle.flash_layout.specs.Frames.{checkpoint_place, journal_place}
use Rattle.flash_layout.specs.FrameFacts.{facts}
use Rattle.flash_layout.specs.Formats.{OutsideWorkGates}
use Rattle.flash_layout.proofs.Gating.{work_closed}
use Rattle.flash_layout.proofs.formatting.close_work.Given as given
use Rattle.flash_layout.proofs.formatting.close_work.Goals as goal
use Rattle.flash_layout.proofs.formatting.close_work.Goals.{After-write_at, After-write_at-2}

once : (g : given.Over) (c : After-write_at g) → IsTrue g.D.Disk.told → Keeps (OutsideWorkGates c.args.frame) (g.D.Disk.flash c.args.disk.now) (g.D.Disk.flash c.write_at.new.self)
once g c t =
    let a = g.D.Disk.flash c.args.disk.now in
    let b = g.D.Disk.flash c.write_at.new.self in
    keeps_fewer (OutsideWorkGates c.args.frame) (Outside (journal_place c.args.frame) 1) (λ i o. (o c.if-frame-ne2.false).0) a b (subst (λ (p : ℕ). Keeps (Outside p 1) a b) c.journal_page.ensures (c.write_at.ensures.keeps t))

twice : (g : given.Over) (c : After-write_at-2 g) → IsTrue g.D.Disk.told → Keeps (OutsideWorkGates c.args.frame) (g.D.Disk.flash c.args.disk.now) (g.D.Disk.flash c.write_at-2.new.self)
twice g c t =
    let a = g.D.Disk.flash c.args.disk.now in
    let b = g.D.Disk.flash c.write_at.new.self in
    let d = g.D.Disk.flash c.write_at-2.new.self in
    keeps_then (OutsideWorkGates c.args.frame) a b d _ (g.met.D.Disk.obeys c.write_at.new.self t)
    (keeps_fewer (OutsideWorkGates c.args.frame) (Outside (journal_place c.args.frame) 1) (λ i o. (o c.if-frame-ne2.false).0) a b (subst (λ (p : ℕ). Keeps (Outside p 1) a b) c.journal_page.ensures (c.write_at.ensures.keeps t)))
    (keeps_fewer (OutsideWorkGates c.args.frame) (Outside (checkpoint_place c.args.frame) 1) (λ i o. (o c.if-frame-ne2.false).1) b d (subst (λ (p : ℕ). Keeps (Outside p 1) b d) c.checkpoint_page.ensures (c.write_at-2.ensures.keeps t)))

pub returns-in-Failed-clause-keeps : goal.returns-in-Failed-clause-keeps
returns-in-Failed-clause-keeps g c = once g (goal.at.returns-in-Failed-clause-keeps g c).After-write_at

pub returns-in-Failed-write_at-clause-keeps : goal.returns-in-Failed-write_at-clause-keeps
returns-in-Failed-write_at-clause-keeps g c = twice g (goal.at.returns-in-Failed-write_at-clause-keeps g c).After-write_at-2

pub returns-in-Done-write_at-clause-keeps : goal.returns-in-Done-write_at-clause-keeps
returns-in-Done-write_at-clause-keeps g c = twice g (goal.at.returns-in-Done-write_at-clause-keeps g c).After-write_at-2

pub returns-in-Done-write_at-clause-closed : goal.returns-in-Done-write_at-clause-closed
returns-in-Done-write_at-clause-closed g c t =
    let law = g.met.D.Disk.obeys c.args.disk.now t in
    let a = (g.D.Disk.flash c.args.disk.now).reads in
    let b = (g.D.Disk.flash c.write_at.new.self).reads in
    work_closed (g.D.Disk.extent c.args.disk.now) c.args.frame (facts (g.D.Disk.extent c.args.disk.now) c.args.frame c.requires) a b _ law.fits
    (c.in-Done.ensures.written t ∙ ap (λ (p : ℕ). written a p (0 ∷ [])) c.journal_page.ensures)
    (c.in-Done-write_at.ensures.written t ∙ ap (λ (p : ℕ). written b p (0 ∷ [])) c.checkpoint_page.ensures)
