-- SUIT_Digest (draft-ietf-suit-manifest-25, section 10): an array of the algorithm and the digest.
use Rattle.std.specs.Prelude.{◌≡◌, ◌≢◌, ℕ, ◌+◌, List, length}
use Rattle.det_cbor.specs.Heads.{head_bytes}
use Rattle.det_cbor.specs.DataItem.{DataItem, UnsignedInteger, NegativeInteger, ByteString, ArrayOf, NoItems, ItemThen, spell}
use Rattle.suit_params.specs.declared.digest.Digest.{Digest}
use Rattle.suit_params.specs.declared.digest_kind.DigestKind.{DigestKind}
use Rattle.suit_params.specs.declared.refusal.Refusal.{Refusal}
use Rattle.suit_params.specs.declared.refusal.Why.TheVariants.{Shape, Algorithm}
use Rattle.suit_params.specs.Refusing.{refused, IsByteString}
use Rattle.suit_params.specs.DigestBytes.{digest_bytes, digest_kind, IsLong}
use Rattle.suit_params.specs.DigestKinds.{size_of, algorithm_item}

-- an array of two items
abbrev pub pair_item : DataItem → DataItem → DataItem
pair_item a b = ArrayOf (ItemThen a (ItemThen b NoItems))

abbrev pub array_of : DigestKind → List ℕ → DataItem
array_of kind bytes = pair_item (algorithm_item kind) (ByteString bytes)

-- the array of a digest's algorithm and its bytes
abbrev pub digest_item : Digest → DataItem
digest_item digest = array_of (digest_kind digest) (digest_bytes digest)

-- the item is the array of the digest, which has the length of its hash function
pub record IsDigest (place : ℕ) (x : DataItem) (digest : Digest) : Type 0 where
  pub is : x ≡ digest_item digest
  pub long : IsLong digest

-- ---- refusals

-- an array of two elements
abbrev pub IsPair : DataItem → Type 0
IsPair (ArrayOf (ItemThen a (ItemThen b NoItems))) = Unit {0}
IsPair _ = ⊥

-- an integer
abbrev pub IsNumber : DataItem → Type 0
IsNumber (UnsignedInteger n) = Unit {0}
IsNumber (NegativeInteger n) = Unit {0}
IsNumber _ = ⊥

-- the places of the two elements of a pair that begins at a place
abbrev pub first_place : ℕ → ℕ
first_place place = place + length (head_bytes 4 2)

abbrev pub second_place : ℕ → DataItem → ℕ
second_place place a = first_place place + length (spell a)

-- the refusals of a digest, whose elements are judged in their order
pub data RefusesDigest (place : ℕ) : DataItem → Refusal → Type 0 where
  NoPair : (x : DataItem) → (IsPair x → ⊥) → RefusesDigest place x (refused place Shape)
  NoNumber : (a b : DataItem) → (IsNumber a → ⊥)
      → RefusesDigest place (pair_item a b) (refused (first_place place) Shape)
  OtherAlgorithm : (a b : DataItem) → IsNumber a → ((kind : DigestKind) → a ≢ algorithm_item kind)
      → RefusesDigest place (pair_item a b) (refused place Algorithm)
  NoByteString : (kind : DigestKind) (b : DataItem) → (IsByteString b → ⊥)
      → RefusesDigest place (pair_item (algorithm_item kind) b)
      (refused (second_place place (algorithm_item kind)) Shape)
  OtherLength : (kind : DigestKind) (bytes : List ℕ) → length bytes ≢ size_of kind
      → RefusesDigest place (array_of kind bytes) (refused place Algorithm)
