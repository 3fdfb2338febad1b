-- Sequences all of whose selections and sources are components of the manifest.
use Rattle.std.specs.Prelude.{ℕ}
use Rattle.std.specs.List.{AllByRecursion}
use Rattle.suit_params.specs.ParamMaking.{IsBelow}
use Rattle.suit_commands.specs.Tree.{CommandTree, Test, Act, Index, Override, TryEach, RunSequence, SequenceTree, NoSteps, StepThen, BranchesTree, NoBranches, BranchThen, NullThen}
use Rattle.suit_commands.specs.Allowed.{IsSelectionOf}

abbrev mutual
  pub AreIndexed : ℕ → SequenceTree → Type 0
  AreIndexed count NoSteps = Unit {0}
  AreIndexed count (StepThen place command rest) = IsIndexed count command × AreIndexed count rest

  pub IsIndexed : ℕ → CommandTree → Type 0
  IsIndexed count (Test kind report) = Unit {0}
  IsIndexed count (Act kind report) = Unit {0}
  IsIndexed count (Index selection) = IsSelectionOf count selection
  IsIndexed count (Override list) = AllByRecursion (IsBelow count) list
  IsIndexed count (TryEach branches) = BranchesIndexed count branches
  IsIndexed count (RunSequence inner) = AreIndexed count inner

  pub BranchesIndexed : ℕ → BranchesTree → Type 0
  BranchesIndexed count NoBranches = Unit {0}
  BranchesIndexed count (BranchThen inner rest) =
      AreIndexed count inner × BranchesIndexed count rest
  BranchesIndexed count (NullThen rest) = BranchesIndexed count rest
