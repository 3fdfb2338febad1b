-- Which item says which sequence of commands (draft-ietf-suit-manifest-25, sections 8.4.6, 8.4.9 and 8.4.10).
use Rattle.std.specs.Prelude.{◌≡◌, ◌≢◌, ◌<◌, ◌≤◌, ◌+◌, ℕ, suc, Bool, true, false, List, [], ◌∷◌, length}
use Rattle.std.specs.List.{AllByRecursion}
use Rattle.det_cbor.specs.Heads.{head_bytes}
use Rattle.det_cbor.specs.DataItem.{DataItem, UnsignedInteger, ByteString, ArrayOf, Boolean, NullItem, DataItems, NoItems, ItemThen, item_count, spell, Spells}
use Rattle.suit_params.specs.declared.param.Param.{Param}
use Rattle.suit_params.specs.Refusing.{content_place}
use Rattle.suit_params.specs.Params.{IsParams}
use Rattle.suit_commands.specs.declared.kinds.TestKind.{TestKind}
use Rattle.suit_commands.specs.declared.kinds.ActKind.{ActKind}
use Rattle.suit_commands.specs.declared.selection.Selection.TheVariants.{One, All, Listed}
use Rattle.suit_commands.specs.Kinds.{test_code, act_code}
use Rattle.suit_commands.specs.Tree.{CommandTree, Test, Act, Index, Override, TryEach, RunSequence, SequenceTree, NoSteps, StepThen, BranchesTree, NoBranches, BranchThen, NullThen}

-- ---- places, for an array, a code or an element at a given place

-- the place of an array's first element
abbrev pub elements_place : ℕ → DataItems → ℕ
elements_place place items = place + length (head_bytes 4 (item_count items))

-- the place after an item
abbrev pub place_after : ℕ → DataItem → ℕ
place_after place item = place + length (spell item)

-- an array of indices
abbrev pub index_items : List ℕ → DataItems
index_items [] = NoItems
index_items (i ∷ is) = ItemThen (UnsignedInteger i) (index_items is)

-- An item says a sequence, for a number of components, in the shared sequence or not. Directives that act on
-- contents are not allowed in the shared sequence, nor in a sequence inside it. Only a given number of levels
-- of sequences may nest; each sequence takes one. The places are those of the sequences, elements, arguments
-- and branches.
mutual
  pub data SaysSequence (shared : Bool) (count : ℕ) : ℕ → ℕ → DataItem → SequenceTree → Type 0 where
    SaysArray : (levels place : ℕ) (items : DataItems) (s : SequenceTree) → items ≢ NoItems
        → SaysSteps shared count levels (elements_place place items) items s
        → SaysSequence shared count (suc levels) place (ArrayOf items) s

  -- codes and arguments alternate
  pub data SaysSteps (shared : Bool) (count : ℕ) : ℕ → ℕ → DataItems → SequenceTree → Type 0 where
    SaysNoSteps : (levels place : ℕ) → SaysSteps shared count levels place NoItems NoSteps
    SaysStep :
        (levels place code : ℕ) (argument : DataItem) (others : DataItems) (command : CommandTree)
        (rest : SequenceTree)
        → SaysCommand shared count levels (place_after place (UnsignedInteger code)) code argument
        command
        → SaysSteps shared count levels
        (place_after (place_after place (UnsignedInteger code)) argument) others rest
        → SaysSteps shared count levels place
        (ItemThen (UnsignedInteger code) (ItemThen argument others))
        (StepThen place command rest)

  -- a code and its argument say a command
  pub data SaysCommand (shared : Bool) (count : ℕ)
      : ℕ → ℕ → ℕ → DataItem → CommandTree → Type 0 where
    SaysTest : (levels place : ℕ) (kind : TestKind) (report : ℕ) → report ≤ 15
        → SaysCommand shared count levels place (test_code kind) (UnsignedInteger report)
        (Test kind report)
    SaysAct : (levels place : ℕ) (kind : ActKind) (report : ℕ) → shared ≡ false → report ≤ 15
        → SaysCommand shared count levels place (act_code kind) (UnsignedInteger report)
        (Act kind report)
    SaysOne : (levels place i : ℕ) → i < count
        → SaysCommand shared count levels place 12 (UnsignedInteger i) (Index (One i))
    SaysAll : (levels place : ℕ)
        → SaysCommand shared count levels place 12 (Boolean true) (Index All)
    SaysListed : (levels place : ℕ) (is : List ℕ) → is ≢ [] → AllByRecursion (λ i. i < count) is
        → SaysCommand shared count levels place 12 (ArrayOf (index_items is)) (Index (Listed is))
    SaysOverride : (levels place : ℕ) (x : DataItem) (list : List Param)
        → IsParams count place x list → SaysCommand shared count levels place 20 x (Override list)
    SaysTry : (levels place : ℕ) (items : DataItems) (branches : BranchesTree)
        → 2 ≤ item_count items
        → SaysBranches shared count levels (elements_place place items) items branches
        → SaysCommand shared count levels place 15 (ArrayOf items) (TryEach branches)
    SaysRun : (levels place : ℕ) (content : List ℕ) (s : SequenceTree)
        → SaysInner shared count levels place content s
        → SaysCommand shared count levels place 32 (ByteString content) (RunSequence s)

  -- only the last branch may be null
  pub data SaysBranches (shared : Bool) (count : ℕ)
      : ℕ → ℕ → DataItems → BranchesTree → Type 0 where
    SaysNoBranches : (levels place : ℕ) → SaysBranches shared count levels place NoItems NoBranches
    SaysNull : (levels place : ℕ)
        → SaysBranches shared count levels place (ItemThen NullItem NoItems) (NullThen NoBranches)
    SaysBranch :
        (levels place : ℕ) (content : List ℕ) (others : DataItems) (s : SequenceTree)
        (rest : BranchesTree)
        → SaysInner shared count levels place content s
        → SaysBranches shared count levels (place_after place (ByteString content)) others rest
        → SaysBranches shared count levels place (ItemThen (ByteString content) others)
        (BranchThen s rest)

  -- the content of a byte string spells a sequence
  pub data SaysInner (shared : Bool) (count : ℕ) : ℕ → ℕ → List ℕ → SequenceTree → Type 0 where
    SaysHeldSequence : (levels place : ℕ) (content : List ℕ) (x : DataItem) (s : SequenceTree)
        → Spells x content
        → SaysSequence shared count levels (content_place place content) x s
        → SaysInner shared count levels place content s
