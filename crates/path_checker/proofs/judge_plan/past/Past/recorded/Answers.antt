use Rattle.std.proofs.Common.{◌≡◌, ◌∙◌, subst}
use Rattle.std.specs.Prelude.{IfSome}
use Rattle.path_checker.specs.Happening.{log_told}
use Rattle.path_checker.proofs.judge_plan.past.Past.recorded.Goals as goal

pub returns-in-Some : goal.returns-in-Some
returns-in-Some c =
    let same : c.in-Some.events.value ≡ log_told c.self.inside.log.items = subst (λ o. IfSome o (λ events. events.value ≡ log_told c.self.inside.log.items)) c.in-Some.is c.self.invariant in
    rw (c.into_inner.ensures, c.in-Some.is) (same ∙ c.self.view_is)
