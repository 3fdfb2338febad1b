use Rattle.std.proofs.Common.{◌≤◌}
use Rattle.std.specs.Prelude.{◌↔◌}
use Rattle.suit_commands.specs.Size.{sequence_size, command_size, branches_size}
use Rattle.suit_cursor.specs.Lending.{command_of}
use Rattle.invoke_proc.specs.Writing.{BranchesHaveWriting, HasWriting}
use Rattle.invoke_proc.proofs.writing.+writing.Given as goal

abbrev pub decreases-has_writing : goal.decreases-has_writing
decreases-has_writing l = sequence_size l.steps

abbrev pub decreases-command_has_writing : goal.decreases-command_has_writing
decreases-command_has_writing l = command_size (command_of l.command)

abbrev pub decreases-branches_have_writing : goal.decreases-branches_have_writing
decreases-branches_have_writing l = branches_size l.branches

abbrev pub decreases-has_writing-loop-step : goal.decreases-has_writing-loop-step
decreases-has_writing-loop-step l = sequence_size l.steps

abbrev pub decreases-branches_have_writing-loop-branch : goal.decreases-branches_have_writing-loop-branch
decreases-branches_have_writing-loop-branch l = branches_size l.branches

-- what is left decides the answer

abbrev pub invariant-has_writing-loop-step : goal.invariant-has_writing-loop-step
invariant-has_writing-loop-step l = record {
  few : sequence_size l.steps ≤ sequence_size l.fn.steps;
  same : HasWriting l.steps ↔ HasWriting l.fn.steps;
}

abbrev pub invariant-branches_have_writing-loop-branch : goal.invariant-branches_have_writing-loop-branch
invariant-branches_have_writing-loop-branch l = record {
  few : branches_size l.branches ≤ branches_size l.fn.branches;
  same : BranchesHaveWriting l.branches ↔ BranchesHaveWriting l.fn.branches;
}
