use Rattle.suit_commands.specs.View.{sequence_tree}
use Rattle.path_checker.specs.Unconditional.{AreUnconditional}
use Rattle.path_checker.specs.Steps.{RunsAll}
use Rattle.path_checker.proofs.Unconditional.{Compacts}
use Rattle.path_checker.proofs.judge_plan.in_place.steps_in_all.Given as goal

abbrev pub invariant-loop-at : goal.invariant-loop-at
invariant-loop-at l = Compacts (AreUnconditional (sequence_tree l.steps)) (RunsAll (sequence_tree l.steps) l.count) l.fn.from.items l.now.items l.at l.kept
