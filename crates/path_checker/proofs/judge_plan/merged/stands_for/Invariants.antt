use Rattle.std.proofs.Common.{◌≤◌, length}
use Rattle.path_checker.proofs.judge_plan.merged.stands_for.Given as goal

abbrev pub invariant-loop-at : goal.invariant-loop-at
invariant-loop-at g l = l.left ≤ length l.kept

abbrev pub decreases-loop-at : goal.decreases-loop-at
decreases-loop-at g l = l.left
