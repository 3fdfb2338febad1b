use Rattle.std.proofs.Common.{◌≡◌, drop}
use Rattle.suit_commands.specs.View.{sequence_tree}
use Rattle.path_checker.specs.Exploring.{state_of}
use Rattle.path_checker.specs.Overriding.{after_overrides}
use Rattle.path_checker.proofs.judge_plan.overriding.set_all.Given as goal

abbrev pub invariant-loop-step : goal.invariant-loop-step
invariant-loop-step l = after_overrides (state_of l.params l.components l.soft_failure) (sequence_tree (drop l.step-index l.steps)) ≡ after_overrides (state_of l.initial.params l.components l.fn.soft_failure) (sequence_tree l.steps)
