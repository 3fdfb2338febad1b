use Rattle.std.proofs.Common.{◌-◌, length}
use Rattle.path_checker.proofs.judge_plan.in_force.InForce.fingerprint.Given as goal

abbrev pub decreases-loop-index : goal.decreases-loop-index
decreases-loop-index l = length l.rows - l.index
