use Rattle.std.proofs.Common.{◌≡◌}
use Rattle.path_checker.specs.Exploring.{after_stops}
use Rattle.path_checker.specs.Inner.{exhausted}
use Rattle.path_checker.proofs.judge_plan.inner.exhaust.Given as goal

abbrev pub invariant-loop-k : goal.invariant-loop-k
invariant-loop-k l = l.failed ≡ after_stops l.initial.failed (exhausted l.outer l.place l.yielded)
