use Rattle.std.proofs.Common.{[], ◌∷◌, subst, inl, refl}
use Rattle.path_checker.specs.Exploring.{Passes, kept_if}
use Rattle.path_checker.specs.Steps.{TestsAt}
use Rattle.path_checker.proofs.judge_plan.spelling.test.Goals as goal

pub returns-then-passes-clause-ok : goal.returns-then-passes-clause-ok
returns-then-passes-clause-ok c =
    let on = subst (λ b. Passes (TestsAt c.args.kind c.args.site.place c.args.site.component) (c.args.k ∷ []) (kept_if b c.pass_test.new.k)) c.if-passes.true c.in_ok-passes.ensures in
    on.1.reached c.pass_test.new.k (inl refl)
