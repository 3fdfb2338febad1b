-- The authentication wrapper (draft-ietf-suit-manifest-25, section 8.3): the manifest's digest, and blocks.
use Rattle.std.specs.Prelude.{◌≡◌, ℕ, ◌+◌, List, [], ◌∷◌, length}
use Rattle.std.specs.List.{AllByRecursion}
use Rattle.det_cbor.specs.Heads.{head_bytes}
use Rattle.det_cbor.specs.DataItem.{DataItem, ArrayOf, DataItems, NoItems, ItemThen, item_count, spell}
use Rattle.suit_params.specs.declared.digest.Digest.{Digest}
use Rattle.suit_params.specs.declared.refusal.Refusal.{Refusal}
use Rattle.suit_params.specs.declared.refusal.Why.TheVariants.{Shape}
use Rattle.suit_params.specs.Refusing.{refused, IsByteString, RefusesHeld, SaysHeld, RefusesFirst}
use Rattle.suit_params.specs.Digests.{IsDigest, RefusesDigest}

-- the items with their places, the first of which is this one
abbrev pub placed : ℕ → DataItems → List (ℕ × DataItem)
placed place NoItems = []
placed place (ItemThen x xs) = (place, x) ∷ placed (place + length (spell x)) xs

-- the place of the first element of an array that has these other ones
abbrev pub elements_place : ℕ → DataItems → ℕ
elements_place place others = place + length (head_bytes 4 (item_count others + 1))

-- the blocks with their places
abbrev pub blocks_of : ℕ → DataItem → DataItems → List (ℕ × DataItem)
blocks_of place first blocks = placed (elements_place place blocks + length (spell first)) blocks

-- a block is a byte string with any content
abbrev pub IsBlock : ℕ × DataItem → Type 0
IsBlock b = IsByteString b.1

-- the first element holds the digest, and each of the others is a block
pub record IsWrapper (place : ℕ) (x : DataItem) (digest : Digest) : Type 0 where
  pub first : DataItem
  pub blocks : DataItems
  pub is : x ≡ ArrayOf (ItemThen first blocks)
  pub holds : SaysHeld IsDigest (elements_place place blocks) first digest
  pub rest : AllByRecursion IsBlock (blocks_of place first blocks)

-- ---- refusals

-- an array that is not empty
abbrev pub HasElements : DataItem → Type 0
HasElements (ArrayOf (ItemThen x xs)) = Unit {0}
HasElements _ = ⊥

pub data RefusesBlock (b : ℕ × DataItem) : Refusal → Type 0 where
  NoBlock : (IsByteString b.1 → ⊥) → RefusesBlock b (refused b.0 Shape)

-- the refusals of a wrapper, whose elements are judged in their order
pub data RefusesWrapper (place : ℕ) : DataItem → Refusal → Type 0 where
  NoElements : (x : DataItem) → (HasElements x → ⊥) → RefusesWrapper place x (refused place Shape)
  BadDigest : (first : DataItem) (blocks : DataItems) (r : Refusal)
      → RefusesHeld RefusesDigest (elements_place place blocks) first r
      → RefusesWrapper place (ArrayOf (ItemThen first blocks)) r
  BadBlock : (first : DataItem) (blocks : DataItems) (digest : Digest) (r : Refusal)
      → SaysHeld IsDigest (elements_place place blocks) first digest
      → RefusesFirst RefusesBlock IsBlock (blocks_of place first blocks) r
      → RefusesWrapper place (ArrayOf (ItemThen first blocks)) r
