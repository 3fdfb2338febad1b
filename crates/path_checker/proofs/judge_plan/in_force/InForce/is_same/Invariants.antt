use Rattle.std.proofs.Common.{◌-◌, length}
use Rattle.path_checker.proofs.Merging.{SameSoFar}
use Rattle.path_checker.proofs.judge_plan.in_force.InForce.is_same.Given as goal

abbrev pub invariant-loop-index : goal.invariant-loop-index
invariant-loop-index l = SameSoFar l.index l.mine l.theirs

abbrev pub decreases-loop-index : goal.decreases-loop-index
decreases-loop-index l = length l.mine - l.index
