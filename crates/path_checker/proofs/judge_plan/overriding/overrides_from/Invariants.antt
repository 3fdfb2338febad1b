use Rattle.std.proofs.Common.{◌-◌, ◌≤◌, length, take, drop}
use Rattle.suit_commands.specs.View.{sequence_tree}
use Rattle.path_checker.specs.Overriding.{AreOverrides}
use Rattle.path_checker.proofs.judge_plan.overriding.overrides_from.Given as goal

abbrev pub invariant-loop-step : goal.invariant-loop-step
invariant-loop-step l = record {
  behind : l.at ≤ l.end;
  within : l.end ≤ length l.steps;
  overrides : AreOverrides (sequence_tree (take (l.end - l.at) (drop l.at l.steps)));
}

abbrev pub decreases-loop-step : goal.decreases-loop-step
decreases-loop-step l = length l.steps - l.end
