-- Refusals of bytes that hold CBOR: they are judged as one item first, and then by a form of items.
use Rattle.std.specs.Prelude.{◌≡◌, ◌≢◌, ℕ, ◌+◌, List, [], ◌∷◌, ◌++◌, length}
use Rattle.det_cbor.specs.DataItem.{DataItem, ByteString, spell, IsValid, Spells}
use Rattle.det_cbor.specs.Heads.{head_bytes}
use Rattle.det_cbor.specs.Faults.{Faulty}
use Rattle.det_cbor.specs.Position.{Position, Takes}
use Rattle.det_cbor.specs.declared.reason.Reason.{Reason}
use Rattle.suit_params.specs.declared.refusal.Refusal.{Refusal}
use Rattle.suit_params.specs.declared.refusal.Why.{Why}
use Rattle.suit_params.specs.declared.refusal.Why.TheVariants.{Cbor, Trailing, Shape}

abbrev pub refused : ℕ → Why → Refusal
refused place why = record { place = place; why = why }

-- a form's refusals: the item at this place has this refusal
abbrev pub Refuses : Type 1
Refuses = ℕ → DataItem → Refusal → Type 0

-- what a form says: the item at this place says this
abbrev pub Says : Type 0 → Type 1
Says A = ℕ → DataItem → A → Type 0

-- ---- the next item, whatever follows it

-- the refusals of the next item: it is not valid, or the form refuses it
pub data RefusesNext (form : Refuses) (p : Position) : Refusal → Type 0 where
  FaultyNext : (at : ℕ) (reason : Reason) → Faulty 0 p.left at reason
      → RefusesNext form p (refused (p.place + at) (Cbor reason))
  RefusedNext : (x : DataItem) (rest : List ℕ) (r : Refusal) → IsValid x → p.left ≡ spell x ++ rest
      → form p.place x r → RefusesNext form p r

-- between the old and the new position an item was taken that says this
pub record TakesNext {A : Type 0} (says : Says A) (old new : Position) (said : A) : Type 0 where
  pub item : DataItem
  pub valid : IsValid item
  pub says_so : says old.place item said
  pub taken : Takes old new (spell item)

-- ---- bytes that hold one item and nothing more

-- the refusals of the bytes: no valid item, bytes after the item, or an item that the form refuses
pub data RefusesWhole (form : Refuses) (place : ℕ) (bytes : List ℕ) : Refusal → Type 0 where
  FaultyItem : (at : ℕ) (reason : Reason) → Faulty 0 bytes at reason
      → RefusesWhole form place bytes (refused (place + at) (Cbor reason))
  BytesAfter : (x : DataItem) (rest : List ℕ) → IsValid x → bytes ≡ spell x ++ rest → rest ≢ []
      → RefusesWhole form place bytes (refused (place + length (spell x)) Trailing)
  RefusedItem : (x : DataItem) (r : Refusal) → Spells x bytes → form place x r
      → RefusesWhole form place bytes r

-- the bytes spell an item that says this
pub record SaysWhole {A : Type 0} (says : Says A) (place : ℕ) (bytes : List ℕ) (said : A)
    : Type 0 where
  pub item : DataItem
  pub spells : Spells item bytes
  pub says_so : says place item said

-- ---- byte strings that hold one item

abbrev pub IsByteString : DataItem → Type 0
IsByteString (ByteString bytes) = Unit {0}
IsByteString _ = ⊥

-- the place of the content of a byte string that begins at a place
abbrev pub content_place : ℕ → List ℕ → ℕ
content_place place content = place + length (head_bytes 2 (length content))

-- the refusals of an item that must be such a byte string
pub data RefusesHeld (form : Refuses) (place : ℕ) : DataItem → Refusal → Type 0 where
  NoString : (x : DataItem) → (IsByteString x → ⊥) → RefusesHeld form place x (refused place Shape)
  BadContent : (content : List ℕ) (r : Refusal)
      → RefusesWhole form (content_place place content) content r
      → RefusesHeld form place (ByteString content) r

-- the item is a byte string whose content spells an item that says this
pub record SaysHeld {A : Type 0} (says : Says A) (place : ℕ) (x : DataItem) (said : A)
    : Type 0 where
  pub content : List ℕ
  pub is : x ≡ ByteString content
  pub holds : SaysWhole says (content_place place content) content said

-- ---- lists, whose elements are judged in order until one is refused

pub data RefusesFirst {A : Type 0} (bad : A → Refusal → Type 0) (good : A → Type 0)
    : List A → Refusal → Type 0 where
  Here : (a : A) (rest : List A) (r : Refusal) → bad a r → RefusesFirst bad good (a ∷ rest) r
  Later : (a : A) (rest : List A) (r : Refusal) → good a → RefusesFirst bad good rest r
      → RefusesFirst bad good (a ∷ rest) r
