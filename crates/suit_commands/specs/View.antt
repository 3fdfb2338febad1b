-- The sequences of the code as trees.
use Rattle.std.specs.Prelude.{ℕ, List, [], ◌∷◌, Option, Some, None}
use Rattle.suit_commands.specs.Tree.{CommandTree, Test, Act, Index, Override, TryEach, RunSequence, SequenceTree, NoSteps, StepThen, BranchesTree, NoBranches, BranchThen, NullThen}
use Rattle.suit_commands.specs.declared.command.Command.{Command}
use Rattle.suit_commands.specs.declared.command.Command.TheVariants as commands
use Rattle.suit_commands.specs.declared.command.Step.{Step}

abbrev pub command_tree : Command → CommandTree
command_tree (commands.Test kind report) = Test kind report
command_tree (commands.Act kind report) = Act kind report
command_tree (commands.Index selection) = Index selection
command_tree (commands.Override list) = Override list
command_tree (commands.TryEach branches) = TryEach branches
command_tree (commands.Run inner) = RunSequence inner

abbrev pub sequence_tree : List Step → SequenceTree
sequence_tree [] = NoSteps
sequence_tree (s ∷ ss) = StepThen s.place (command_tree s.command) (sequence_tree ss)

abbrev pub branches_tree : List (Option SequenceTree) → BranchesTree
branches_tree [] = NoBranches
branches_tree (None ∷ bs) = NullThen (branches_tree bs)
branches_tree (Some s ∷ bs) = BranchThen s (branches_tree bs)

-- ---- one more at the end

abbrev pub step_after : SequenceTree → ℕ → CommandTree → SequenceTree
step_after NoSteps place command = StepThen place command NoSteps
step_after (StepThen p c rest) place command = StepThen p c (step_after rest place command)

abbrev pub branch_after : BranchesTree → Option SequenceTree → BranchesTree
branch_after NoBranches (Some s) = BranchThen s NoBranches
branch_after NoBranches None = NullThen NoBranches
branch_after (BranchThen s rest) branch = BranchThen s (branch_after rest branch)
branch_after (NullThen rest) branch = NullThen (branch_after rest branch)
