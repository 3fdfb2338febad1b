use Rattle.std.proofs.Common.{◌≡◌, ◌++◌}
use Rattle.path_checker.specs.Exploring.{after_stops}
use Rattle.path_checker.specs.Inner.{softly, hardly}
use Rattle.path_checker.proofs.judge_plan.inner.split.Given as goal

abbrev pub invariant-loop-stop : goal.invariant-loop-stop
invariant-loop-stop l = record {
  next : l.next.items ≡ l.initial.next.items ++ softly l.outer l.yielded;
  failed : l.failed ≡ after_stops l.initial.failed (hardly l.outer l.yielded);
}
