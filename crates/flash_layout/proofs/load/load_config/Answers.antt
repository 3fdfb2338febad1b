use Rattle.std.proofs.Common.{◌≤◌, ℕ, sym, subst, ◌∙◌, arith}
use Rattle.std.proofs.lemmas.Bool.{iff_false}
use Rattle.suit_edge.specs.FlashLaws.{same_flash_then}
use Rattle.flash_layout.specs.Frames.{IsFrame}
use Rattle.flash_layout.proofs.Loading.{misplaced_bad, small_blank, untold_bad}
use Rattle.flash_layout.proofs.load.load_config.Goals as goal

pub returns-then-size-lt-HEAD_SIZE-clause-exact : goal.returns-then-size-lt-HEAD_SIZE-clause-exact
returns-then-size-lt-HEAD_SIZE-clause-exact g c t =
    small_blank (g.D.Disk.flash c.args.disk.now).reads (g.D.Disk.extent c.args.disk.now) (g.met.D.Disk.obeys c.args.disk.now t).fits (omega (arith, c.size-size.ensures, c.if-size-lt-HEAD_SIZE.true))

pub returns-in-Ok-None-clause-exact : goal.returns-in-Ok-None-clause-exact
returns-in-Ok-None-clause-exact g c t =
    let large : 49152 ≤ g.D.Disk.extent c.args.disk.now = omega (arith, c.size-size.ensures, c.if-size-lt-HEAD_SIZE.false) in
    untold_bad (g.D.Disk.extent c.args.disk.now) (g.D.Disk.flash c.args.disk.now).reads (g.met.D.Disk.obeys c.args.disk.now t).fits large (sym c.in-Ok-None.field-0-is ∙ c.in-Ok-None.ensures.told t)

pub returns-then-not-is_frame-clause-exact : goal.returns-then-not-is_frame-clause-exact
returns-then-not-is_frame-clause-exact g c t =
    let large : 49152 ≤ g.D.Disk.extent c.args.disk.now = omega (arith, c.size-size.ensures, c.if-size-lt-HEAD_SIZE.false) in
    misplaced_bad (g.D.Disk.extent c.args.disk.now) (g.D.Disk.flash c.args.disk.now).reads (g.met.D.Disk.obeys c.args.disk.now t).fits large c.in-Ok-Some.frame (sym (c.in-Ok-Some.ensures.told t) ∙ c.in-Ok-Some.field-0-is)
    (subst (λ (n : ℕ). IsFrame n c.in-Ok-Some.frame → ⊥) c.size-size.ensures (iff_false c.is_frame.ensures c.if-not-is_frame.true))

pub returns-clause-same : goal.returns-clause-same
returns-clause-same g c t =
    same_flash_then (g.D.Disk.flash c.args.disk.now) (g.D.Disk.flash c.read_root.new.disk) (g.D.Disk.flash c.load_page.new.disk) (g.D.Disk.extent c.read_root.new.disk) (g.met.D.Disk.obeys c.read_root.new.disk t) (c.read_root.ensures.same t) (c.load_page.ensures.same t)
