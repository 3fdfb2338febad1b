use Rattle.std.proofs.Common.{◌≡◌, true}
use Rattle.path_checker.specs.Inner.{all_entered}
use Rattle.path_checker.proofs.judge_plan.inner.enter_all.Given as goal

abbrev pub invariant-loop-k : goal.invariant-loop-k
invariant-loop-k l = l.inside.items ≡ all_entered l.outer l.component true l.yielded
