use Rattle.std.proofs.Common.{◌≡◌, ◌≤◌}
use Rattle.suit_commands.specs.Size.{sequence_size, command_size, branches_size}
use Rattle.suit_commands.proofs.ReadingSteps.{steps_append, branches_append}
use Rattle.suit_cursor.specs.Lending.{command_of, branch_of}
use Rattle.suit_cursor.proofs.TreeCopies.{branch_size}
use Rattle.suit_cursor.proofs.copying.+copy.Given as goal

abbrev pub decreases-copy_sequence : goal.decreases-copy_sequence
decreases-copy_sequence l = sequence_size l.left

abbrev pub decreases-copy_command : goal.decreases-copy_command
decreases-copy_command l = command_size (command_of l.command)

abbrev pub decreases-copy_branch : goal.decreases-copy_branch
decreases-copy_branch l = branch_size (branch_of l.branch)

abbrev pub decreases-copy_branches : goal.decreases-copy_branches
decreases-copy_branches l = branches_size l.left

abbrev pub invariant-copy_sequence-loop-step : goal.invariant-copy_sequence-loop-step
invariant-copy_sequence-loop-step l = (steps_append l.sequence l.left ≡ l.fn.left) × (sequence_size l.left ≤ sequence_size l.fn.left)

abbrev pub decreases-copy_sequence-loop-step : goal.decreases-copy_sequence-loop-step
decreases-copy_sequence-loop-step l = sequence_size l.left

abbrev pub invariant-copy_branches-loop-branch : goal.invariant-copy_branches-loop-branch
invariant-copy_branches-loop-branch l = (branches_append l.branches l.left ≡ l.fn.left) × (branches_size l.left ≤ branches_size l.fn.left)

abbrev pub decreases-copy_branches-loop-branch : goal.decreases-copy_branches-loop-branch
decreases-copy_branches-loop-branch l = branches_size l.left
