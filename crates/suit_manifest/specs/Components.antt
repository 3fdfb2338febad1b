-- The identifiers of a manifest's components (draft-ietf-suit-manifest-25, section 8.4.5).
use Rattle.std.specs.Prelude.{◌≡◌, ◌≢◌, ◌<◌, ◌≤◌, ℕ, zero, suc, List, length, slice_get}
use Rattle.std.specs.List.{AllByRecursion}
use Rattle.det_cbor.specs.DataItem.{DataItem, ByteString, ArrayOf, DataItems, NoItems, ItemThen, item_count, spell}
use Rattle.suit_params.specs.declared.refusal.Refusal.{Refusal}
use Rattle.suit_params.specs.declared.refusal.Why.TheVariants.{Shape, TooMany, LongIdentifier, TwoAlike}
pub use Rattle.suit_params.specs.Identifiers.{string_items, identifier_item, identifier_items}
use Rattle.suit_params.specs.Refusing.{refused, IsByteString}
use Rattle.suit_commands.specs.Sequences.{elements_place, place_after}

-- the spelling has at most 64 bytes (this project's own limit)
abbrev pub IsShort : List (List ℕ) → Type 0
IsShort id = length (spell (identifier_item id)) ≤ 64

-- no two identifiers are equal
abbrev pub AreApart : List (List (List ℕ)) → Type 0
AreApart ids = (i j : ℕ) → i < j → j < length ids → slice_get ids i ≢ slice_get ids j

-- an array of one to eight identifiers
pub record IsComponents (place : ℕ) (x : DataItem) (ids : List (List (List ℕ))) : Type 0 where
  pub is : x ≡ ArrayOf (identifier_items ids)
  pub some : 1 ≤ length ids
  pub few : length ids ≤ 8
  pub short : AllByRecursion IsShort ids
  pub apart : AreApart ids

-- ---- refusals

abbrev pub IsArray : DataItem → Type 0
IsArray (ArrayOf items) = Unit {0}
IsArray _ = ⊥

-- the place of element i, where the first element has this place
abbrev pub element_place : ℕ → DataItems → ℕ → ℕ
element_place place items zero = place
element_place place NoItems (suc i) = place
element_place place (ItemThen x items) (suc i) = element_place (place_after place x) items i

-- the refusals of an identifier's parts, each of which is judged before the next
pub data RefusesParts : ℕ → DataItems → Refusal → Type 0 where
  NoPart : (place : ℕ) (x : DataItem) (others : DataItems) → (IsByteString x → ⊥)
      → RefusesParts place (ItemThen x others) (refused place Shape)
  LaterPart : (place : ℕ) (part : List ℕ) (others : DataItems) (r : Refusal)
      → RefusesParts (place_after place (ByteString part)) others r
      → RefusesParts place (ItemThen (ByteString part) others) r

-- the refusals of an identifier: its form comes first, and then its length
pub data RefusesIdentifier (place : ℕ) : DataItem → Refusal → Type 0 where
  NoIdentifier : (x : DataItem) → (IsArray x → ⊥) → RefusesIdentifier place x (refused place Shape)
  BadPart : (items : DataItems) (r : Refusal) → RefusesParts (elements_place place items) items r
      → RefusesIdentifier place (ArrayOf items) r
  TooLong : (id : List (List ℕ)) → (IsShort id → ⊥)
      → RefusesIdentifier place (identifier_item id) (refused place LongIdentifier)

-- the refusals of identifiers, each of which is judged before the next
pub data RefusesIdentifiers : ℕ → DataItems → Refusal → Type 0 where
  BadIdentifier : (place : ℕ) (x : DataItem) (others : DataItems) (r : Refusal)
      → RefusesIdentifier place x r → RefusesIdentifiers place (ItemThen x others) r
  LaterIdentifier : (place : ℕ) (id : List (List ℕ)) (others : DataItems) (r : Refusal) → IsShort id
      → RefusesIdentifiers (place_after place (identifier_item id)) others r
      → RefusesIdentifiers place (ItemThen (identifier_item id) others) r

-- the first two that are equal: the second is as low as possible, and then the first
pub record AreAlike (ids : List (List (List ℕ))) (i j : ℕ) : Type 0 where
  pub below : i < j
  pub inside : j < length ids
  pub same : slice_get ids i ≡ slice_get ids j
  pub least_second : (k l : ℕ) → k < l → l < j → slice_get ids k ≢ slice_get ids l
  pub least_first : (k : ℕ) → k < i → slice_get ids k ≢ slice_get ids j

-- the refusals of components: too many come first, then each identifier, and then two that are equal
pub data RefusesComponents (place : ℕ) : DataItem → Refusal → Type 0 where
  NoArray : (x : DataItem) → (IsArray x → ⊥) → RefusesComponents place x (refused place Shape)
  NoComponents : RefusesComponents place (ArrayOf NoItems) (refused place Shape)
  ManyComponents : (items : DataItems) → 8 < item_count items
      → RefusesComponents place (ArrayOf items) (refused place (TooMany (item_count items)))
  BadComponents : (items : DataItems) (r : Refusal) → item_count items ≤ 8
      → RefusesIdentifiers (elements_place place items) items r
      → RefusesComponents place (ArrayOf items) r
  AlikeComponents : (ids : List (List (List ℕ))) (i j : ℕ) → length ids ≤ 8
      → AllByRecursion IsShort ids → AreAlike ids i j
      → RefusesComponents place (ArrayOf (identifier_items ids))
      (refused
      (element_place (elements_place place (identifier_items ids)) (identifier_items ids) j)
      (TwoAlike i j))
