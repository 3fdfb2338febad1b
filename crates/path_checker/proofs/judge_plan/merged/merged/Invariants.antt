use Rattle.std.proofs.Common.{length}
use Rattle.path_checker.proofs.Merging.{MergesLeft}
use Rattle.path_checker.proofs.judge_plan.merged.merged.Given as goal

abbrev pub invariant-loop-one : goal.invariant-loop-one
invariant-loop-one g l = MergesLeft g.T.Standing.same l.fn.from.items l.left.items l.kept.items

abbrev pub decreases-loop-one : goal.decreases-loop-one
decreases-loop-one g l = length l.left.items
