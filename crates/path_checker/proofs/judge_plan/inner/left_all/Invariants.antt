use Rattle.std.proofs.Common.{◌≡◌, ◌++◌, length, take, drop}
use Rattle.path_checker.specs.Inner.{all_left}
use Rattle.path_checker.proofs.judge_plan.inner.left_all.Given as goal

abbrev pub invariant-loop-at : goal.invariant-loop-at
invariant-loop-at l = record {
  count : length l.now.items ≡ length l.fn.from.items;
  is : l.now.items ≡ all_left l.outer (take l.at l.fn.from.items) ++ drop l.at l.fn.from.items;
}
