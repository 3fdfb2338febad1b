use Rattle.std.proofs.Common.{◌≡◌, ◌++◌, drop}
use Rattle.suit_commands.specs.View.{sequence_tree}
use Rattle.path_checker.specs.Happening.{sequence_sets}
use Rattle.path_checker.specs.Selecting.{components_of}
use Rattle.path_checker.proofs.judge_plan.sets.tell_several.Given as goal

abbrev pub invariant-loop-step : goal.invariant-loop-step
invariant-loop-step l = l.events ++ sequence_sets (sequence_tree (drop l.step-index l.steps)) (components_of l.components) ≡ l.initial.events ++ sequence_sets (sequence_tree l.steps) (components_of l.components)
