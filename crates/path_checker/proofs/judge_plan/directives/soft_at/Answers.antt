use Rattle.std.proofs.Common.{ℕ, ◌+◌, List, ◌∷◌, drop, add-one, sym, ap, ◌∙◌}
use Rattle.std.proofs.Math.Seq.{drop-cons}
use Rattle.path_checker.specs.Steps.{soft_at}
use Rattle.path_checker.proofs.judge_plan.directives.soft_at.Goals as goal

pub loop-preserved : goal.loop-preserved
loop-preserved c =
    ap (λ b. soft_at b (drop (c.loop.index + 1) c.args.components.now) c.args.list.now) c.soft_after_all-soft_failure.ensures
    ∙ ap (λ (m : ℕ). soft_at c.loop.soft_failure (0 ∷ drop m c.args.components.now) c.args.list.now) (add-one c.loop.index)
    ∙ ap (λ (xs : List ℕ). soft_at c.loop.soft_failure xs c.args.list.now) (sym (drop-cons c.args.components.now c.loop.index 0 c.loop-test.true))
    ∙ c.loop.invariant
