-- How items are judged, case by case: what they say, or the first refusal.
use Rattle.std.specs.Prelude.{ℕ, ◌==◌, if◌then◌else◌, List, [], ◌∷◌, length, Option, Some, None, Result, Ok, Err}
use Rattle.det_cbor.specs.DataItem.{DataItem, UnsignedInteger, NegativeInteger, ByteString, ArrayOf, NoItems, ItemThen}
use Rattle.suit_params.specs.declared.digest.Digest.{Digest}
use Rattle.suit_params.specs.declared.digest_kind.DigestKind.{DigestKind}
use Rattle.suit_params.specs.declared.refusal.Refusal.{Refusal}
use Rattle.suit_params.specs.declared.refusal.Why.TheVariants.{Shape, Algorithm}
use Rattle.suit_params.specs.Refusing.{refused, content_place}
use Rattle.suit_params.specs.Reading.{whole_judged}
use Rattle.det_cbor.specs.HeadReading.{◌>>=◌}
use Rattle.det_cbor.specs.Position.{Position}
use Rattle.suit_params.specs.DigestBytes.{digest_by}
use Rattle.suit_params.specs.DigestKinds.{size_of, kind_of}
use Rattle.suit_params.specs.Digests.{first_place, second_place}

-- a byte string gives its content, at the content's place
abbrev pub judge_string : ℕ → DataItem → Result Position Refusal
judge_string place (ByteString content) =
    Ok (record { left = content; place = content_place place content })
judge_string place _ = Err (refused place Shape)

-- a byte string that must hold one item
abbrev pub judge_held : {A : Type 0} → (ℕ → DataItem → Result A Refusal) → ℕ → DataItem
    → Result A Refusal
judge_held judge place x =
    judge_string place x >>= λ content. whole_judged judge content.place content.left

-- the elements of a list, in their order
abbrev pub judge_each : {A : Type 0} → (A → Result Unit Refusal) → List A → Result Unit Refusal
judge_each judge [] = Ok tt
judge_each judge (a ∷ rest) = judge a >>= λ _. judge_each judge rest

-- ---- digests

abbrev pub judge_value : ℕ → ℕ → DigestKind → DataItem → Result Digest Refusal
judge_value array place kind (ByteString bytes) =
    if length bytes == size_of kind then Ok (digest_by kind bytes) else Err (refused array Algorithm)
judge_value array place kind _ = Err (refused place Shape)

-- the second element, judged after the first, which names this algorithm
abbrev pub judge_by : ℕ → DataItem → DataItem → Option DigestKind → Result Digest Refusal
judge_by array a b None = Err (refused array Algorithm)
judge_by array a b (Some kind) = judge_value array (second_place array a) kind b

abbrev pub judge_elements : ℕ → DataItem → DataItem → Result Digest Refusal
judge_elements array (UnsignedInteger n) b = Err (refused array Algorithm)
judge_elements array (NegativeInteger n) b = judge_by array (NegativeInteger n) b (kind_of n)
judge_elements array _ b = Err (refused (first_place array) Shape)

-- an array of two elements, which are judged in their order
abbrev pub judge_digest : ℕ → DataItem → Result Digest Refusal
judge_digest place (ArrayOf (ItemThen a (ItemThen b NoItems))) = judge_elements place a b
judge_digest place _ = Err (refused place Shape)
