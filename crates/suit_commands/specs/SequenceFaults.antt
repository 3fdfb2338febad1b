-- Refusals of an item that must be a sequence of commands (draft-ietf-suit-manifest-25, section 8.4.6).
use Rattle.std.specs.Prelude.{◌≡◌, ◌≢◌, ◌<◌, ◌≤◌, ◌+◌, ◌⊎◌, ℕ, zero, suc, Bool, true, false, List, [], ◌++◌, length}
use Rattle.det_cbor.specs.DataItem.{DataItem, UnsignedInteger, ByteString, ArrayOf, Boolean, NullItem, DataItems, NoItems, ItemThen, item_count, spell, Spells, IsValid}
use Rattle.det_cbor.specs.Faults.{Faulty}
use Rattle.det_cbor.specs.declared.reason.Reason.{Reason}
use Rattle.suit_params.specs.declared.refusal.Refusal.{Refusal}
use Rattle.suit_params.specs.declared.refusal.Why.TheVariants.{Cbor, Trailing, Shape, Unsupported, BadArgument, BadIndex, Nested}
use Rattle.suit_params.specs.Refusing.{refused, content_place, IsByteString}
pub use Rattle.suit_params.specs.Params.{IsUnsigned}
use Rattle.suit_params.specs.Params.{IsMap, RefusesParams}
use Rattle.suit_commands.specs.declared.kinds.TestKind.{TestKind}
use Rattle.suit_commands.specs.declared.kinds.ActKind.{ActKind}
use Rattle.suit_commands.specs.Kinds.{test_code, act_code}
use Rattle.suit_commands.specs.Tree.{CommandTree, SequenceTree}
use Rattle.suit_commands.specs.Sequences.{elements_place, place_after, SaysCommand, SaysInner}

-- ---- kinds of items

-- the number of elements is even, and not zero
abbrev pub ArePairs : DataItems → Type 0
ArePairs NoItems = Unit {0}
ArePairs (ItemThen code NoItems) = ⊥
ArePairs (ItemThen code (ItemThen argument others)) = ArePairs others

-- an array that is not empty and whose elements are in pairs
abbrev pub IsSequenceArray : DataItem → Type 0
IsSequenceArray (ArrayOf items) = (items ≢ NoItems) × ArePairs items
IsSequenceArray _ = ⊥

-- a reporting policy: a number of four bits
abbrev pub IsPolicy : DataItem → Type 0
IsPolicy (UnsignedInteger n) = n ≤ 15
IsPolicy _ = ⊥

-- an index, true, or an array that is not empty
abbrev pub IsSelection : DataItem → Type 0
IsSelection (UnsignedInteger i) = Unit {0}
IsSelection (Boolean b) = b ≡ true
IsSelection (ArrayOf items) = items ≢ NoItems
IsSelection _ = ⊥

-- an array of at least two elements
abbrev pub IsTryArray : DataItem → Type 0
IsTryArray (ArrayOf items) = 2 ≤ item_count items
IsTryArray _ = ⊥

-- a byte string, or null if no other branch follows
abbrev pub IsBranch : DataItem → DataItems → Type 0
IsBranch (ByteString content) others = Unit {0}
IsBranch NullItem NoItems = Unit {0}
IsBranch _ others = ⊥

-- ---- codes

abbrev pub IsTestCode : ℕ → Type 0
IsTestCode n = (kind : TestKind) × (n ≡ test_code kind)

abbrev pub IsActCode : ℕ → Type 0
IsActCode n = (kind : ActKind) × (n ≡ act_code kind)

-- the codes whose argument is a reporting policy
abbrev pub IsPolicyCode : Bool → ℕ → Type 0
IsPolicyCode shared n = IsTestCode n ⊎ ((shared ≡ false) × IsActCode n)

-- those codes, and set component index (12), try each (15), override parameters (20) and run sequence (32)
abbrev pub IsCode : Bool → ℕ → Type 0
IsCode shared n = IsPolicyCode shared n ⊎ (n ≡ 12) ⊎ (n ≡ 15) ⊎ (n ≡ 20) ⊎ (n ≡ 32)

-- ---- index lists: their elements are judged in order; one of another kind makes the whole list a bad
-- argument

pub data RefusesIndices (count list : ℕ) : ℕ → DataItems → Refusal → Type 0 where
  NoIndex : (place : ℕ) (x : DataItem) (others : DataItems) → (IsUnsigned x → ⊥)
      → RefusesIndices count list place (ItemThen x others) (refused list BadArgument)
  IndexAbove : (place i : ℕ) (others : DataItems) → count ≤ i
      → RefusesIndices count list place (ItemThen (UnsignedInteger i) others)
      (refused place (BadIndex i count))
  LaterIndex : (place i : ℕ) (others : DataItems) (r : Refusal) → i < count
      → RefusesIndices count list (place_after place (UnsignedInteger i)) others r
      → RefusesIndices count list place (ItemThen (UnsignedInteger i) others) r

-- ---- sequences: each code is judged before its argument, and each command before the next

mutual
  pub data RefusesSequence (shared : Bool) (count : ℕ) : ℕ → ℕ → DataItem → Refusal → Type 0 where
    NoSequence : (levels place : ℕ) (x : DataItem) → (IsSequenceArray x → ⊥)
        → RefusesSequence shared count (suc levels) place x (refused place Shape)
    BadSteps : (levels place : ℕ) (items : DataItems) (r : Refusal)
        → IsSequenceArray (ArrayOf items)
        → RefusesSteps shared count levels (elements_place place items) items r
        → RefusesSequence shared count (suc levels) place (ArrayOf items) r

  -- refusals of codes and arguments
  pub data RefusesSteps (shared : Bool) (count : ℕ) : ℕ → ℕ → DataItems → Refusal → Type 0 where
    OtherCode : (levels place : ℕ) (code argument : DataItem) (others : DataItems)
        → ((n : ℕ) → code ≡ UnsignedInteger n → IsCode shared n → ⊥)
        → RefusesSteps shared count levels place (ItemThen code (ItemThen argument others))
        (refused place Unsupported)
    OtherArgument : (levels place n : ℕ) (argument : DataItem) (others : DataItems) (r : Refusal)
        → RefusesArgument shared count levels (place_after place (UnsignedInteger n)) n argument r
        → RefusesSteps shared count levels place
        (ItemThen (UnsignedInteger n) (ItemThen argument others)) r
    LaterStep :
        (levels place n : ℕ) (argument : DataItem) (others : DataItems) (command : CommandTree)
        (r : Refusal)
        → SaysCommand shared count levels (place_after place (UnsignedInteger n)) n argument command
        → RefusesSteps shared count levels
        (place_after (place_after place (UnsignedInteger n)) argument) others r
        → RefusesSteps shared count levels place
        (ItemThen (UnsignedInteger n) (ItemThen argument others)) r

  -- refusals of the argument after this code
  pub data RefusesArgument (shared : Bool) (count : ℕ)
      : ℕ → ℕ → ℕ → DataItem → Refusal → Type 0 where
    NoPolicy : (levels place n : ℕ) (x : DataItem) → IsPolicyCode shared n → (IsPolicy x → ⊥)
        → RefusesArgument shared count levels place n x (refused place BadArgument)
    NoSelection : (levels place : ℕ) (x : DataItem) → (IsSelection x → ⊥)
        → RefusesArgument shared count levels place 12 x (refused place BadArgument)
    NoComponent : (levels place i : ℕ) → count ≤ i
        → RefusesArgument shared count levels place 12 (UnsignedInteger i)
        (refused place (BadIndex i count))
    BadIndices : (levels place : ℕ) (items : DataItems) (r : Refusal)
        → RefusesIndices count place (elements_place place items) items r
        → RefusesArgument shared count levels place 12 (ArrayOf items) r
    NoParams : (levels place : ℕ) (x : DataItem) → (IsMap x → ⊥)
        → RefusesArgument shared count levels place 20 x (refused place BadArgument)
    BadParams : (levels place : ℕ) (x : DataItem) (r : Refusal) → IsMap x
        → RefusesParams count place x r → RefusesArgument shared count levels place 20 x r
    NoTries : (levels place : ℕ) (x : DataItem) → (IsTryArray x → ⊥)
        → RefusesArgument shared count levels place 15 x (refused place BadArgument)
    BadBranches : (levels place : ℕ) (items : DataItems) (r : Refusal) → 2 ≤ item_count items
        → RefusesBranches shared count levels (elements_place place items) items r
        → RefusesArgument shared count levels place 15 (ArrayOf items) r
    NoString : (levels place : ℕ) (x : DataItem) → (IsByteString x → ⊥)
        → RefusesArgument shared count levels place 32 x (refused place BadArgument)
    BadRun : (levels place : ℕ) (content : List ℕ) (r : Refusal)
        → RefusesInner shared count levels place content r
        → RefusesArgument shared count levels place 32 (ByteString content) r

  -- refusals of the branches of a try each
  pub data RefusesBranches (shared : Bool) (count : ℕ) : ℕ → ℕ → DataItems → Refusal → Type 0 where
    NoBranch : (levels place : ℕ) (x : DataItem) (others : DataItems) → (IsBranch x others → ⊥)
        → RefusesBranches shared count levels place (ItemThen x others) (refused place BadArgument)
    BadBranch : (levels place : ℕ) (content : List ℕ) (others : DataItems) (r : Refusal)
        → RefusesInner shared count levels place content r
        → RefusesBranches shared count levels place (ItemThen (ByteString content) others) r
    LaterBranch : (levels place : ℕ) (content : List ℕ) (others : DataItems) (s : SequenceTree)
        (r : Refusal)
        → SaysInner shared count levels place content s
        → RefusesBranches shared count levels (place_after place (ByteString content)) others r
        → RefusesBranches shared count levels place (ItemThen (ByteString content) others) r

  -- refusals of a byte string that must hold a sequence, whose content is judged as one item first
  pub data RefusesInner (shared : Bool) (count : ℕ) : ℕ → ℕ → List ℕ → Refusal → Type 0 where
    TooNested : (place : ℕ) (content : List ℕ)
        → RefusesInner shared count zero place content (refused place Nested)
    FaultyContent : (levels place : ℕ) (content : List ℕ) (at : ℕ) (reason : Reason)
        → Faulty 0 content at reason
        → RefusesInner shared count (suc levels) place content
        (refused (content_place place content + at) (Cbor reason))
    BytesBehind : (levels place : ℕ) (content : List ℕ) (x : DataItem) (rest : List ℕ) → IsValid x
        → content ≡ spell x ++ rest → rest ≢ []
        → RefusesInner shared count (suc levels) place content
        (refused (content_place place content + length (spell x)) Trailing)
    BadSequence : (levels place : ℕ) (content : List ℕ) (x : DataItem) (r : Refusal)
        → Spells x content
        → RefusesSequence shared count (suc levels) (content_place place content) x r
        → RefusesInner shared count (suc levels) place content r
