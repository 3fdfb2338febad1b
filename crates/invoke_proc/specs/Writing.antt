-- Sequences that hold a directive that writes contents, themselves or in a sequence inside them
-- (draft-ietf-suit-manifest-25, section 8.4.10).
use Rattle.std.specs.Prelude.{◌⊎◌}
use Rattle.suit_commands.specs.Targets.{IsWriting}
use Rattle.suit_commands.specs.Tree.{CommandTree, Test, Act, Index, Override, TryEach, RunSequence, SequenceTree, NoSteps, StepThen, BranchesTree, NoBranches, BranchThen, NullThen}

abbrev mutual
  pub HasWriting : SequenceTree → Type 0
  HasWriting NoSteps = ⊥
  HasWriting (StepThen place command rest) = CommandHasWriting command ⊎ HasWriting rest

  pub CommandHasWriting : CommandTree → Type 0
  CommandHasWriting (Test kind report) = ⊥
  CommandHasWriting (Act kind report) = IsWriting kind
  CommandHasWriting (Index selection) = ⊥
  CommandHasWriting (Override list) = ⊥
  CommandHasWriting (TryEach tries) = BranchesHaveWriting tries
  CommandHasWriting (RunSequence inner) = HasWriting inner

  pub BranchesHaveWriting : BranchesTree → Type 0
  BranchesHaveWriting NoBranches = ⊥
  BranchesHaveWriting (BranchThen inner rest) = HasWriting inner ⊎ BranchesHaveWriting rest
  BranchesHaveWriting (NullThen rest) = BranchesHaveWriting rest
