use Rattle.std.proofs.Common.{◌-◌, ◌≤◌, length, take, drop}
use Rattle.suit_commands.specs.View.{sequence_tree}
use Rattle.path_checker.specs.Small.{AreInPlace}
use Rattle.path_checker.proofs.judge_plan.straight.in_place_from.Given as goal

abbrev pub invariant-loop-end : goal.invariant-loop-end
invariant-loop-end l = record {
  behind : l.at ≤ l.end;
  within : l.end ≤ length l.steps;
  in_place : AreInPlace l.tests (sequence_tree (take (l.end - l.at) (drop l.at l.steps)));
}

abbrev pub decreases-loop-end : goal.decreases-loop-end
decreases-loop-end l = length l.steps - l.end
