-- The size of a tree, which is greater than that of each part.
use Rattle.std.specs.Prelude.{ℕ, ◌+◌}
use Rattle.suit_commands.specs.Tree.{CommandTree, Test, Act, Index, Override, TryEach, RunSequence, SequenceTree, NoSteps, StepThen, BranchesTree, NoBranches, BranchThen, NullThen}

abbrev mutual
  pub sequence_size : SequenceTree → ℕ
  sequence_size NoSteps = 1
  sequence_size (StepThen place command rest) = 1 + command_size command + sequence_size rest

  pub command_size : CommandTree → ℕ
  command_size (Test kind report) = 1
  command_size (Act kind report) = 1
  command_size (Index selection) = 1
  command_size (Override list) = 1
  command_size (TryEach tries) = 1 + branches_size tries
  command_size (RunSequence inner) = 1 + sequence_size inner

  pub branches_size : BranchesTree → ℕ
  branches_size NoBranches = 1
  branches_size (BranchThen inner rest) = 1 + sequence_size inner + branches_size rest
  branches_size (NullThen rest) = 1 + branches_size rest
