use Rattle.std.proofs.Common.{◌≡◌, drop}
use Rattle.suit_commands.specs.View.{sequence_tree}
use Rattle.path_checker.specs.Unconditional.{AreUnconditional}
use Rattle.path_checker.proofs.judge_plan.unconditional.+unconditional.Given as goal

-- a condition is met in what is left, or in none of them
abbrev pub invariant-are_unconditional-loop-step : goal.invariant-are_unconditional-loop-step
invariant-are_unconditional-loop-step l = record {
  whole : sequence_tree l.step-items ≡ l.sequence;
  there : AreUnconditional (sequence_tree (drop l.step-index l.step-items)) → AreUnconditional l.sequence;
  back : AreUnconditional l.sequence → AreUnconditional (sequence_tree (drop l.step-index l.step-items));
}
