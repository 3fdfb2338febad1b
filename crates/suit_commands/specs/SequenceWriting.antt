-- A sequence that is written reads back as that sequence (draft-ietf-suit-manifest-25, section 8.4.6).
use Rattle.std.specs.Prelude.{◌≡◌, ◌<◌, ◌^◌, ℕ, Bool, List, length}
use Rattle.std.specs.List.{AllByRecursion}
use Rattle.det_cbor.specs.DataItem.{item_count, spell, IsString}
use Rattle.suit_params.specs.ParamMaking.{IsParam}
use Rattle.suit_params.specs.Refusing.{SaysWhole}
use Rattle.suit_commands.specs.declared.selection.Selection.{Selection}
use Rattle.suit_commands.specs.declared.selection.Selection.TheVariants.{One, All, Listed}
use Rattle.suit_commands.specs.Allowed.{IsSequence, levels_allowed}
use Rattle.suit_commands.specs.Sequences.{SaysSequence, elements_place}
use Rattle.suit_commands.specs.SequenceMaking.{step_items, branch_items, sequence_item, placed, unplaced}
use Rattle.suit_commands.specs.Tree.{CommandTree, Test, Act, Index, Override, TryEach, RunSequence, SequenceTree, NoSteps, StepThen, BranchesTree, NoBranches, BranchThen, NullThen}

-- ---- the bounds that the types of the code set a tree: counts and lengths are below 2 ^ 64, and parameters
-- have the lengths of their types

abbrev pub IsU64 : ℕ → Type 0
IsU64 n = n < 2 ^ 64

abbrev pub SelectionFits : Selection → Type 0
SelectionFits (One component) = IsU64 component
SelectionFits All = Unit {0}
SelectionFits (Listed components) = IsU64 (length components) × AllByRecursion IsU64 components

abbrev mutual
  pub StepsFit : SequenceTree → Type 0
  StepsFit NoSteps = Unit {0}
  StepsFit (StepThen place command rest) = CommandFits command × StepsFit rest

  pub CommandFits : CommandTree → Type 0
  CommandFits (Test kind report) = Unit {0}
  CommandFits (Act kind report) = Unit {0}
  CommandFits (Index selection) = SelectionFits selection
  CommandFits (Override list) = AllByRecursion IsParam list
  CommandFits (TryEach tries) = IsU64 (item_count (branch_items tries)) × BranchesFit tries
  CommandFits (RunSequence inner) =
      IsString (spell (sequence_item inner))
      × (IsU64 (item_count (step_items inner)) × StepsFit inner)

  pub BranchesFit : BranchesTree → Type 0
  BranchesFit NoBranches = Unit {0}
  BranchesFit (BranchThen inner rest) =
      (IsString (spell (sequence_item inner))
      × (IsU64 (item_count (step_items inner)) × StepsFit inner))
      × BranchesFit rest
  BranchesFit (NullThen rest) = BranchesFit rest

-- the bounds of the array's count and of its elements
abbrev pub SequenceFits : SequenceTree → Type 0
SequenceFits s = IsU64 (item_count (step_items s)) × StepsFit s

-- the bounds of a sequence in a byte string
abbrev pub InnerFits : SequenceTree → Type 0
InnerFits s = IsString (spell (sequence_item s)) × SequenceFits s

-- Wherever they are placed, the bytes say the tree with the places that it has there, if the grammar allows it.
-- Apart from its places it is the same tree.
pub record IsWrittenSequence (s : SequenceTree) (bytes : List ℕ) : Type 0 where
  pub says : (shared : Bool) (count place : ℕ) → IsSequence shared count levels_allowed s
      → SaysWhole (SaysSequence shared count levels_allowed) place bytes
      (placed (elements_place place (step_items s)) s)
  pub same : (place : ℕ) → unplaced (placed place s) ≡ unplaced s
