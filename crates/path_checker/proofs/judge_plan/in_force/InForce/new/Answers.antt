use Rattle.std.proofs.Common.{◌∙◌, ap}
use Rattle.path_checker.proofs.RowLaws.{first_rows, first_flat}
use Rattle.path_checker.proofs.judge_plan.in_force.InForce.new.Goals as goal

pub invariant_of-result : goal.invariant_of-result
invariant_of-result c = first_rows c.overriding_laws.ensures.whole c.overriding_laws.ensures.empty _ (ap (λ rows. rows.items) c.in_ok-held.ensures.ok ∙ c.in_ok-empty_rows.ensures)

pub returns : goal.returns
returns c = first_flat _ (ap (λ rows. rows.items) c.in_ok-held.ensures.ok ∙ c.in_ok-empty_rows.ensures)
