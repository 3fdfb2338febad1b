use Rattle.std.proofs.Common.{ap, Some, None, [], ◌∷◌}
use Rattle.std.proofs.lemmas.Result.{IfOk-weaker}
use Rattle.path_checker.specs.Spelling.{Fails}
use Rattle.path_checker.specs.Wanting.{TestsOwn}
use Rattle.path_checker.specs.Steps.{TestsAt}
use Rattle.path_checker.proofs.Spelling.{Fails-no_own, Fails-identity}
use Rattle.path_checker.proofs.judge_plan.failing.fail_identity.Goals as goal

pub returns-in-Some : goal.returns-in-Some
returns-in-Some c =
    IfOk-weaker c.fail_own.result (λ stop. Fails (TestsOwn c.args.kind c.args.site.place c.args.site.component (Some c.in-Some.own)) (c.args.k ∷ []) stop) (λ stop. Fails (TestsAt c.args.kind c.args.site.place c.args.site.component) (c.args.k ∷ []) stop)
    (λ stop x. Fails-identity c.args.kind c.args.site.place c.args.site.component c.args.k c.k.inside.params (Some c.in-Some.own) stop c.requires.kinds (ap (λ k. k.state.parameters) c.k.view_is) c.in-Some.ensures x) c.fail_own.ensures

pub returns-in-None : goal.returns-in-None
returns-in-None c =
    Fails-identity c.args.kind c.args.site.place c.args.site.component c.args.k c.k.inside.params None c.failed_at.result c.requires.kinds (ap (λ k. k.state.parameters) c.k.view_is) c.in-None.ensures
    (Fails-no_own c.args.kind c.args.site.place c.args.site.component c.args.k c.failed_at.result c.failed_at.ensures)
