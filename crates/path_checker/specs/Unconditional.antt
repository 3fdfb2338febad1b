-- Commands that run no condition: each state leads to one state at most, and no sequence ends in a failed condition.
use Rattle.suit_commands.specs.Tree.{CommandTree, Test, Act, Index, Override, TryEach, RunSequence, SequenceTree, NoSteps, StepThen, BranchesTree, NoBranches, BranchThen, NullThen}

abbrev mutual
  pub IsUnconditional : CommandTree → Type 0
  IsUnconditional (Test kind report) = ⊥
  IsUnconditional (Act kind report) = Unit {0}
  IsUnconditional (Index selection) = Unit {0}
  IsUnconditional (Override list) = Unit {0}
  IsUnconditional (TryEach branches) = FirstIsUnconditional branches
  IsUnconditional (RunSequence inner) = AreUnconditional inner

  pub AreUnconditional : SequenceTree → Type 0
  AreUnconditional NoSteps = Unit {0}
  AreUnconditional (StepThen place command rest) = IsUnconditional command × AreUnconditional rest

  -- the first branch completes or ends the procedure, so that no other is run
  pub FirstIsUnconditional : BranchesTree → Type 0
  FirstIsUnconditional NoBranches = ⊥
  FirstIsUnconditional (NullThen rest) = Unit {0}
  FirstIsUnconditional (BranchThen inner rest) = AreUnconditional inner
