-- Components that there is room for: their numbers are below 8.
use Rattle.std.specs.Prelude.{◌<◌, ◌≤◌, ℕ, Bool, true, false, List}
use Rattle.std.specs.List.{AllByRecursion}
use Rattle.suit_commands.specs.declared.selection.Selection.{Selection}
use Rattle.suit_commands.specs.declared.selection.Selection.TheVariants.{One, All, Listed}
use Rattle.path_checker.specs.Unconditional.{IsUnconditional, AreUnconditional, FirstIsUnconditional}
use Rattle.suit_commands.specs.Tree.{CommandTree, Index, TryEach, RunSequence, SequenceTree, NoSteps, StepThen, BranchesTree, NoBranches, BranchThen, NullThen}

-- each component is below 8
abbrev pub AreSmall : List ℕ → Type 0
AreSmall components = AllByRecursion (λ component. component < 8) components

-- out of so many components, a command selects only components below 8
abbrev pub SelectsSmall : ℕ → Selection → Type 0
SelectsSmall count (One component) = component < 8
SelectsSmall count All = count ≤ 8
SelectsSmall count (Listed components) = AreSmall components

abbrev mutual
  pub IsSmallSequence : ℕ → SequenceTree → Type 0
  IsSmallSequence count NoSteps = Unit {0}
  IsSmallSequence count (StepThen place command rest) =
      IsSmallCommand count command × IsSmallSequence count rest

  pub IsSmallCommand : ℕ → CommandTree → Type 0
  IsSmallCommand count (Index selection) = SelectsSmall count selection
  IsSmallCommand count (TryEach branches) = AreSmallBranches count branches
  IsSmallCommand count (RunSequence inner) = IsSmallSequence count inner
  IsSmallCommand count _ = Unit {0}

  pub AreSmallBranches : ℕ → BranchesTree → Type 0
  AreSmallBranches count NoBranches = Unit {0}
  AreSmallBranches count (NullThen rest) = AreSmallBranches count rest
  AreSmallBranches count (BranchThen inner rest) =
      IsSmallSequence count inner × AreSmallBranches count rest

-- a straight command: it is a condition, or it runs none
abbrev pub IsStraight : CommandTree → Type 0
IsStraight (TryEach branches) = FirstIsUnconditional branches
IsStraight (RunSequence inner) = AreUnconditional inner
IsStraight _ = Unit {0}

-- a command that can run on a state in place: conditions can only if their failures are not kept
abbrev pub IsInPlace : Bool → CommandTree → Type 0
IsInPlace true command = IsStraight command
IsInPlace false command = IsUnconditional command

abbrev pub AreInPlace : Bool → SequenceTree → Type 0
AreInPlace tests NoSteps = Unit {0}
AreInPlace tests (StepThen place command rest) = IsInPlace tests command × AreInPlace tests rest

abbrev pub AreStraight : SequenceTree → Type 0
AreStraight sequence = AreInPlace true sequence
