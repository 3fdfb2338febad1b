use Rattle.std.proofs.Common.{◌≡◌, drop}
use Rattle.path_checker.specs.Steps.{soft_after_all}
use Rattle.path_checker.proofs.judge_plan.directives.soft_after_all.Given as goal

abbrev pub invariant-loop-param : goal.invariant-loop-param
invariant-loop-param l = soft_after_all l.soft_failure (drop l.param-index l.param-items) ≡ soft_after_all l.fn.soft_failure l.list
