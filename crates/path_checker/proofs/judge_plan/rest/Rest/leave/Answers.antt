use Rattle.std.proofs.Common.{ℕ, List, ◌∷◌, ap, ◌∙◌}
use Rattle.path_checker.specs.Exploring.{Kept}
use Rattle.path_checker.specs.Rests.{OfLeave}
use Rattle.path_checker.proofs.judge_plan.rest.Rest.leave.Goals as goal

pub returns : goal.returns
returns c =
    c.in_ok-rest.ensures ∙ ap (λ (cs : List ℕ). OfLeave cs c.k.inside.soft_failure ∷ c.args.behind.now) c.copy.ensures ∙ ap (λ (k : Kept). OfLeave k.state.selection k.state.soft_failure ∷ c.args.behind.now) c.k.view_is
