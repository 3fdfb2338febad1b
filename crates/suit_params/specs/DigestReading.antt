-- How the elements of a digest are read, from an item that was judged before.
use Rattle.std.specs.Prelude.{ℕ, ◌==◌, if◌then◌else◌, Option, Some, None, Result, Ok, Err}
use Rattle.det_cbor.specs.declared.head.HeadKind.{HeadKind}
use Rattle.det_cbor.specs.declared.head.HeadKind.TheVariants as kinds
use Rattle.det_cbor.specs.HeadReading.{◌>>=◌}
use Rattle.det_cbor.specs.Position.{Position}
use Rattle.suit_params.specs.declared.digest.Digest.{Digest}
use Rattle.suit_params.specs.declared.digest_kind.DigestKind.{DigestKind}
use Rattle.suit_params.specs.declared.refusal.Refusal.{Refusal}
use Rattle.suit_params.specs.declared.refusal.Why.TheVariants.{Shape, Algorithm}
use Rattle.suit_params.specs.DigestBytes.{digest_by}
use Rattle.suit_params.specs.DigestKinds.{size_of, kind_of}
use Rattle.suit_params.specs.Refusing.{refused}
use Rattle.suit_params.specs.Reading.{head_from, bytes_from, inner_from, kind_from, array_from}

-- the next n bytes, as a digest by this hash function
abbrev pub digest_with : DigestKind → ℕ → Position → Result (Digest × Position) Refusal
digest_with kind n p = bytes_from n p >>= λ bytes. Ok (digest_by kind bytes.0, bytes.1)

unfoldable pub value_at : ℕ → DigestKind → Position → Result (Digest × Position) Refusal
value_at array kind p =
    kind_from kinds.Bytes Shape p
    >>= λ n. if n.0 == size_of kind then digest_with kind n.0 n.1
    else Err (refused array Algorithm)

abbrev pub algorithm_by : ℕ → Position → Option DigestKind → Result (DigestKind × Position) Refusal
algorithm_by array p None = Err (refused array Algorithm)
algorithm_by array p (Some kind) = Ok (kind, p)

abbrev pub algorithm_after : ℕ → ℕ → ℕ → Position → HeadKind
    → Result (DigestKind × Position) Refusal
algorithm_after array place n p kinds.Unsigned = Err (refused array Algorithm)
algorithm_after array place n p kinds.Negative = algorithm_by array p (kind_of n)
algorithm_after array place n p _ = Err (refused place Shape)

unfoldable pub algorithm_at : ℕ → Position → Result (DigestKind × Position) Refusal
algorithm_at array p = head_from p >>= λ h. algorithm_after array p.place h.0.value h.1 h.0.kind

abbrev pub elements_at : ℕ → ℕ × Position → Result Digest Refusal
elements_at place n =
    if n.0 == 2 then (algorithm_at place n.1 >>= λ q. value_at place q.0 q.1 >>= λ d. Ok d.0)
    else Err (refused place Shape)

-- a whole item, read as a digest
unfoldable pub digest_at : Position → Result Digest Refusal
digest_at p = array_from p >>= elements_at p.place

-- the next item, read as a digest
abbrev pub next_digest : Position → Result (Digest × Position) Refusal
next_digest p = inner_from p >>= λ x. digest_at x.0 >>= λ d. Ok (d, x.1)
