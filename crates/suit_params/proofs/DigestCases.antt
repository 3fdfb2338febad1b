-- The kinds of items that a digest's reader tells apart.
use Rattle.std.proofs.Common.{◌≡◌, ℕ, ◌+◌, false, eqb, List, Err, refl, arith}
use Rattle.std.proofs.lemmas.Bool.{ne_eqb}
use Rattle.det_cbor.specs.DataItem.{DataItem, UnsignedInteger, NegativeInteger, ByteString, ArrayOf, NoItems, ItemThen, item_count}
use Rattle.det_cbor.specs.declared.head.HeadKind.TheVariants as kinds
use Rattle.det_cbor.specs.HeadReading.{◌>>=◌}
use Rattle.det_cbor.specs.Position.{Position}
use Rattle.suit_params.specs.declared.digest_kind.DigestKind.{DigestKind}
use Rattle.suit_params.specs.declared.refusal.Why.TheVariants.{Shape}
use Rattle.suit_params.specs.Refusing.{refused, IsByteString}
use Rattle.suit_params.specs.Digests.{IsPair, IsNumber, pair_item, first_place}
use Rattle.suit_params.specs.Judging.{judge_value, judge_elements, judge_digest}
use Rattle.suit_params.specs.Reading.{kind_after}
use Rattle.suit_params.specs.DigestReading.{algorithm_after, elements_at}
use Rattle.det_cbor.specs.ItemHeads.{item_kind, item_value}

-- ---- pairs

pub record OtherThanPair (x : DataItem) : Type 0 where
  pub other : IsPair x → ⊥
  pub judged : (place : ℕ) → judge_digest place x ≡ Err (refused place Shape)
  pub read : (place : ℕ) (p : Position) → (kind_after kinds.Array Shape place (item_value x) p (item_kind x) >>= elements_at place) ≡ Err (refused place Shape)

other_count : (n place : ℕ) (p : Position) → (n ≡ 2 → ⊥) → elements_at place (n, p) ≡ Err (refused place Shape)
other_count n place p other = let no : eqb n 2 ≡ false = ne_eqb n 2 other in rw no refl

pub by_pair : (P : DataItem → Type 0) → ((a b : DataItem) → P (pair_item a b)) → ((x : DataItem) → OtherThanPair x → P x) → (x : DataItem) → P x
by_pair P pair other (ArrayOf NoItems) = other (ArrayOf NoItems) (record { other = λ h. h; judged = λ place. refl; read = λ place p. refl })
by_pair P pair other (ArrayOf (ItemThen a NoItems)) = other (ArrayOf (ItemThen a NoItems)) (record { other = λ h. h; judged = λ place. refl; read = λ place p. refl })
by_pair P pair other (ArrayOf (ItemThen a (ItemThen b NoItems))) = pair a b
by_pair P pair other (ArrayOf (ItemThen a (ItemThen b (ItemThen c xs)))) =
    other (ArrayOf (ItemThen a (ItemThen b (ItemThen c xs)))) (record { other = λ h. h; judged = λ place. refl; read = λ place p. other_count (item_count xs + 1 + 1 + 1) place p (λ e. omega (arith, e)) })
by_pair P pair other x = other x (record { other = λ h. h; judged = λ place. refl; read = λ place p. refl })

-- ---- numbers

pub record OtherThanNumber (a : DataItem) : Type 0 where
  pub other : IsNumber a → ⊥
  pub judged : (place : ℕ) (b : DataItem) → judge_elements place a b ≡ Err (refused (first_place place) Shape)
  pub read : (array place : ℕ) (p : Position) → algorithm_after array place (item_value a) p (item_kind a) ≡ Err (refused place Shape)

pub by_number : (P : DataItem → Type 0) → ((n : ℕ) → P (UnsignedInteger n)) → ((n : ℕ) → P (NegativeInteger n)) → ((a : DataItem) → OtherThanNumber a → P a) → (a : DataItem) → P a
by_number P unsigned negative other (UnsignedInteger n) = unsigned n
by_number P unsigned negative other (NegativeInteger n) = negative n
by_number P unsigned negative other x = other x (record { other = λ h. h; judged = λ place b. refl; read = λ array place p. refl })

-- ---- byte strings

pub record OtherThanBytes (b : DataItem) : Type 0 where
  pub other : IsByteString b → ⊥
  pub judged : (array place : ℕ) (kind : DigestKind) → judge_value array place kind b ≡ Err (refused place Shape)
  pub read : (place : ℕ) (p : Position) → kind_after kinds.Bytes Shape place (item_value b) p (item_kind b) ≡ Err (refused place Shape)

pub by_bytes : (P : DataItem → Type 0) → ((bytes : List ℕ) → P (ByteString bytes)) → ((b : DataItem) → OtherThanBytes b → P b) → (b : DataItem) → P b
by_bytes P bytes other (ByteString content) = bytes content
by_bytes P bytes other x = other x (record { other = λ h. h; judged = λ array place kind. refl; read = λ place p. refl })
