use Rattle.std.proofs.Common.{◌≡◌, drop}
use Rattle.path_checker.specs.Steps.{soft_at}
use Rattle.path_checker.proofs.judge_plan.directives.soft_at.Given as goal

abbrev pub invariant-loop : goal.invariant-loop
invariant-loop l = soft_at l.soft_failure (drop l.index l.components) l.list ≡ soft_at l.fn.soft_failure l.components l.list
