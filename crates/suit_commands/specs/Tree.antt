-- Command sequences as trees (draft-ietf-suit-manifest-25, section 8.4.6).
use Rattle.std.specs.Prelude.{ℕ, List}
use Rattle.suit_params.specs.declared.param.Param.{Param}
use Rattle.suit_commands.specs.declared.kinds.TestKind.{TestKind}
use Rattle.suit_commands.specs.declared.kinds.ActKind.{ActKind}
use Rattle.suit_commands.specs.declared.selection.Selection.{Selection}

mutual
  -- a command; a condition, or a directive that acts on contents, has a reporting policy
  pub data CommandTree : Type 0 where
    Test : (kind : TestKind) (report : ℕ) → CommandTree
    Act : (kind : ActKind) (report : ℕ) → CommandTree
    Index : (selection : Selection) → CommandTree
    Override : (list : List Param) → CommandTree
    TryEach : (branches : BranchesTree) → CommandTree
    RunSequence : (inner : SequenceTree) → CommandTree

  -- the steps in order, each with the place of its command's code in the envelope
  pub data SequenceTree : Type 0 where
    NoSteps : SequenceTree
    StepThen : (place : ℕ) (command : CommandTree) (rest : SequenceTree) → SequenceTree

  -- the sequences of a try each in order; a null one does nothing
  pub data BranchesTree : Type 0 where
    NoBranches : BranchesTree
    NullThen : (rest : BranchesTree) → BranchesTree
    BranchThen : (inner : SequenceTree) (rest : BranchesTree) → BranchesTree

-- A procedure: the shared sequence, its three members, and the number of components. An absent sequence
-- counts as empty.
pub record PlanTree : Type 0 where
  pub shared : SequenceTree
  pub first : SequenceTree
  pub second : SequenceTree
  pub third : SequenceTree
  pub count : ℕ
