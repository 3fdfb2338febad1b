-- The item that a sequence is written as, and the places of its codes (draft-ietf-suit-manifest-25, section
-- 8.4.6).
use Rattle.std.specs.Prelude.{ℕ, true}
use Rattle.det_cbor.specs.DataItem.{DataItem, UnsignedInteger, ByteString, ArrayOf, Boolean, NullItem, DataItems, NoItems, ItemThen, spell}
use Rattle.suit_params.specs.Refusing.{content_place}
use Rattle.suit_params.specs.ParamMaking.{params_item}
use Rattle.suit_commands.specs.declared.selection.Selection.{Selection}
use Rattle.suit_commands.specs.declared.selection.Selection.TheVariants.{One, All, Listed}
use Rattle.suit_commands.specs.Kinds.{test_code, act_code}
use Rattle.suit_commands.specs.Sequences.{elements_place, place_after, index_items}
use Rattle.suit_commands.specs.Tree.{CommandTree, Test, Act, Index, Override, TryEach, RunSequence, SequenceTree, NoSteps, StepThen, BranchesTree, NoBranches, BranchThen, NullThen}

abbrev pub code_of : CommandTree → ℕ
code_of (Test kind report) = test_code kind
code_of (Act kind report) = act_code kind
code_of (Index selection) = 12
code_of (Override list) = 20
code_of (TryEach tries) = 15
code_of (RunSequence inner) = 32

abbrev pub selection_item : Selection → DataItem
selection_item (One component) = UnsignedInteger component
selection_item All = Boolean true
selection_item (Listed components) = ArrayOf (index_items components)

-- codes and arguments alternate; an inner sequence is an item of its own in a byte string
abbrev mutual
  pub step_items : SequenceTree → DataItems
  step_items NoSteps = NoItems
  step_items (StepThen place command rest) =
      ItemThen (UnsignedInteger (code_of command))
      (ItemThen (argument_item command) (step_items rest))

  pub argument_item : CommandTree → DataItem
  argument_item (Test kind report) = UnsignedInteger report
  argument_item (Act kind report) = UnsignedInteger report
  argument_item (Index selection) = selection_item selection
  argument_item (Override list) = params_item list
  argument_item (TryEach tries) = ArrayOf (branch_items tries)
  argument_item (RunSequence inner) = ByteString (spell (ArrayOf (step_items inner)))

  pub branch_items : BranchesTree → DataItems
  branch_items NoBranches = NoItems
  branch_items (BranchThen inner rest) =
      ItemThen (ByteString (spell (ArrayOf (step_items inner)))) (branch_items rest)
  branch_items (NullThen rest) = ItemThen NullItem (branch_items rest)

-- the array that a sequence is written as
abbrev pub sequence_item : SequenceTree → DataItem
sequence_item s = ArrayOf (step_items s)

-- the byte string that holds a sequence
abbrev pub inner_item : SequenceTree → DataItem
inner_item inner = ByteString (spell (sequence_item inner))

-- ---- places, for a code, a byte string or a first element at a given place

abbrev pub argument_place : ℕ → CommandTree → ℕ
argument_place place command = place_after place (UnsignedInteger (code_of command))

-- the place of the code after a command
abbrev pub next_code : ℕ → CommandTree → ℕ
next_code place command = place_after (argument_place place command) (argument_item command)

-- the place of the first code of an inner sequence
abbrev pub first_code : ℕ → SequenceTree → ℕ
first_code place inner =
    elements_place (content_place place (spell (sequence_item inner))) (step_items inner)

-- the same tree with the places of its spelling, whose first code is at this place
abbrev mutual
  pub placed : ℕ → SequenceTree → SequenceTree
  placed place NoSteps = NoSteps
  placed place (StepThen was command rest) =
      StepThen place (placed_command (argument_place place command) command)
      (placed (next_code place command) rest)

  -- the same for a command, whose argument is at this place
  pub placed_command : ℕ → CommandTree → CommandTree
  placed_command place (Test kind report) = Test kind report
  placed_command place (Act kind report) = Act kind report
  placed_command place (Index selection) = Index selection
  placed_command place (Override list) = Override list
  placed_command place (TryEach tries) =
      TryEach (placed_branches (elements_place place (branch_items tries)) tries)
  placed_command place (RunSequence inner) = RunSequence (placed (first_code place inner) inner)

  -- the same for branches, the first of which is at this place
  pub placed_branches : ℕ → BranchesTree → BranchesTree
  placed_branches place NoBranches = NoBranches
  placed_branches place (BranchThen inner rest) =
      BranchThen (placed (first_code place inner) inner)
      (placed_branches (place_after place (inner_item inner)) rest)
  placed_branches place (NullThen rest) =
      NullThen (placed_branches (place_after place NullItem) rest)

-- the same tree with all places set to 0
abbrev mutual
  pub unplaced : SequenceTree → SequenceTree
  unplaced NoSteps = NoSteps
  unplaced (StepThen place command rest) = StepThen 0 (unplaced_command command) (unplaced rest)

  pub unplaced_command : CommandTree → CommandTree
  unplaced_command (Test kind report) = Test kind report
  unplaced_command (Act kind report) = Act kind report
  unplaced_command (Index selection) = Index selection
  unplaced_command (Override list) = Override list
  unplaced_command (TryEach tries) = TryEach (unplaced_branches tries)
  unplaced_command (RunSequence inner) = RunSequence (unplaced inner)

  pub unplaced_branches : BranchesTree → BranchesTree
  unplaced_branches NoBranches = NoBranches
  unplaced_branches (BranchThen inner rest) = BranchThen (unplaced inner) (unplaced_branches rest)
  unplaced_branches (NullThen rest) = NullThen (unplaced_branches rest)
