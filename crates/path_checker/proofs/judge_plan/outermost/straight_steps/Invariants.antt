use Rattle.std.proofs.Common.{◌-◌, ◌≤◌, List, [], ◌∷◌, drop, length}
use Rattle.suit_commands.specs.View.{sequence_tree}
use Rattle.path_checker.specs.Going.{GoesOn}
use Rattle.path_checker.specs.Rests.{Later, RunsThen}
use Rattle.path_checker.specs.Small.{IsSmallSequence}
use Rattle.path_checker.proofs.judge_plan.outermost.straight_steps.Given as goal

abbrev pub invariant-loop-step : goal.invariant-loop-step
invariant-loop-step l = record {
  within : l.at ≤ length l.steps;
  small : IsSmallSequence l.count (sequence_tree (drop l.at l.steps));
  goes : (rest : List Later) → GoesOn (RunsThen (sequence_tree l.steps) rest l.count) (l.initial.k ∷ []) (RunsThen (sequence_tree (drop l.at l.steps)) rest l.count) (l.k ∷ []);
}

abbrev pub decreases-loop-step : goal.decreases-loop-step
decreases-loop-step l = length l.steps - l.at
