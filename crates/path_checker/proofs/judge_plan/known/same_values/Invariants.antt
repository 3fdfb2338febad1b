use Rattle.std.proofs.Common.{◌-◌, length}
use Rattle.path_checker.proofs.Merging.{SameSoFar}
use Rattle.path_checker.proofs.judge_plan.known.same_values.Given as goal

abbrev pub invariant-loop-index : goal.invariant-loop-index
invariant-loop-index g l = SameSoFar l.index l.ones l.others

abbrev pub decreases-loop-index : goal.decreases-loop-index
decreases-loop-index g l = length l.ones - l.index
