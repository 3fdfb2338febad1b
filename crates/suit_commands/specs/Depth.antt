-- How deep sequences nest.
use Rattle.std.specs.Prelude.{ℕ, ◌+◌, max}
use Rattle.suit_commands.specs.Tree.{CommandTree, TryEach, RunSequence, SequenceTree, NoSteps, StepThen, BranchesTree, NoBranches, BranchThen, NullThen}

-- the levels of a sequence, counting itself; for a command or a branch, those of the sequence that it is in
abbrev mutual
  pub sequence_depth : SequenceTree → ℕ
  sequence_depth NoSteps = 1
  sequence_depth (StepThen place command rest) = max (command_depth command) (sequence_depth rest)

  pub command_depth : CommandTree → ℕ
  command_depth (TryEach branches) = branches_depth branches
  command_depth (RunSequence inner) = 1 + sequence_depth inner
  command_depth _ = 1

  pub branches_depth : BranchesTree → ℕ
  branches_depth NoBranches = 1
  branches_depth (BranchThen inner rest) = max (1 + sequence_depth inner) (branches_depth rest)
  branches_depth (NullThen rest) = branches_depth rest
