use Rattle.std.proofs.Common.{◌≡◌, ◌≤◌, ℕ, Option, None, Some, sym, subst, ◌∙◌, arith}
use Rattle.std.proofs.lemmas.Bool.{iff_false}
use Rattle.flash_layout.specs.declared.frame.Frame.{Frame}
use Rattle.flash_layout.specs.Frames.{IsFrame}
use Rattle.flash_layout.proofs.Loading.{none_some, small_none, some_same}
use Rattle.flash_layout.proofs.load.load_frame.Goals as goal

pub returns-then-size-lt-HEAD_SIZE-clause-exact : goal.returns-then-size-lt-HEAD_SIZE-clause-exact
returns-then-size-lt-HEAD_SIZE-clause-exact g c t = λ frame is told. small_none (g.D.Disk.extent c.args.disk.now) frame is (omega (arith, c.size-size.ensures, c.if-size-lt-HEAD_SIZE.true))

pub returns-in-Ok-None-clause-exact : goal.returns-in-Ok-None-clause-exact
returns-in-Ok-None-clause-exact g c t = λ frame is told. none_some frame (sym c.in-Ok-None.field-0-is ∙ c.in-Ok-None.ensures.told t ∙ told)

pub returns-then-not-is_frame-clause-exact : goal.returns-then-not-is_frame-clause-exact
returns-then-not-is_frame-clause-exact g c t = λ frame is told.
    iff_false c.is_frame.ensures c.if-not-is_frame.true
    (subst (λ (n : ℕ). IsFrame n c.in-Ok-Some.frame) (sym c.size-size.ensures)
    (subst (IsFrame (g.D.Disk.extent c.args.disk.now)) (some_same frame c.in-Ok-Some.frame (sym told ∙ sym (c.in-Ok-Some.ensures.told t) ∙ c.in-Ok-Some.field-0-is)) is))

pub returns-clause-exact : goal.returns-clause-exact
returns-clause-exact g c t = (
  subst (λ (n : ℕ). IsFrame n c.in-Ok-Some.frame) c.size-size.ensures (c.is_frame.ensures.0 c.if-not-is_frame.false),
  sym (c.in-Ok-Some.ensures.told t) ∙ c.in-Ok-Some.field-0-is,
)
