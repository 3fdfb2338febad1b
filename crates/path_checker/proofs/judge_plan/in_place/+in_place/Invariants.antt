use Rattle.std.proofs.Common.{◌≤◌, ◌-◌, ◌*◌, ◌+◌, [], ◌∷◌, drop, length}
use Rattle.suit_commands.specs.Size.{sequence_size, command_size, branches_size}
use Rattle.suit_commands.specs.View.{sequence_tree, command_tree}
use Rattle.path_checker.specs.Small.{IsSmallSequence, AreStraight}
use Rattle.path_checker.specs.Unconditional.{IsUnconditional, AreUnconditional}
use Rattle.path_checker.specs.Steps.{AtEach, RunsAll}
use Rattle.path_checker.proofs.Continuing.{Goes}
use Rattle.path_checker.proofs.judge_plan.in_place.+in_place.Given as goal

abbrev pub decreases-steps_in : goal.decreases-steps_in
decreases-steps_in l = 4 * sequence_size (sequence_tree l.steps.now)

abbrev pub decreases-command_in : goal.decreases-command_in
decreases-command_in l = 4 * command_size (command_tree l.step.now.command) + 3

abbrev pub decreases-each_in : goal.decreases-each_in
decreases-each_in l = 4 * command_size (command_tree l.step.now.command) + 2

abbrev pub decreases-one_in : goal.decreases-one_in
decreases-one_in l = 4 * command_size (command_tree l.step.now.command) + 1

abbrev pub decreases-inside : goal.decreases-inside
decreases-inside l = 4 * sequence_size l.inner.now + 1

abbrev pub decreases-try_in : goal.decreases-try_in
decreases-try_in l = 4 * branches_size l.branches.now + 1

abbrev pub invariant-steps_in-loop-at : goal.invariant-steps_in-loop-at
invariant-steps_in-loop-at l = record {
  within : l.at ≤ length l.steps;
  small : IsSmallSequence l.count (sequence_tree (drop l.at l.steps));
  straight : AreStraight (sequence_tree (drop l.at l.steps));
  goes : Goes (AreUnconditional (sequence_tree l.steps)) (RunsAll (sequence_tree l.steps) l.count) (l.initial.k ∷ []) (RunsAll (sequence_tree (drop l.at l.steps)) l.count) (l.k ∷ []);
}

abbrev pub decreases-steps_in-loop-at : goal.decreases-steps_in-loop-at
decreases-steps_in-loop-at l = length l.steps - l.at

abbrev pub invariant-each_in-loop-index : goal.invariant-each_in-loop-index
invariant-each_in-loop-index l = Goes (IsUnconditional (command_tree l.step.command)) (AtEach (command_tree l.step.command) l.count l.step.place l.initial.k.state.selection) (l.initial.k ∷ []) (AtEach (command_tree l.step.command) l.count l.step.place (drop l.index l.selection)) (l.k ∷ [])
