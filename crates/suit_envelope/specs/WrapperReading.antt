-- How the elements of a wrapper are read, from an item that was judged before.
use Rattle.std.specs.Prelude.{ℕ, zero, suc, ◌-◌, ◌==◌, if◌then◌else◌, Result, Ok, Err}
use Rattle.det_cbor.specs.declared.head.HeadKind.{HeadKind}
use Rattle.det_cbor.specs.declared.head.HeadKind.TheVariants as kinds
use Rattle.det_cbor.specs.HeadReading.{◌>>=◌}
use Rattle.det_cbor.specs.Position.{Position}
use Rattle.suit_params.specs.declared.digest.Digest.{Digest}
use Rattle.suit_params.specs.declared.refusal.Refusal.{Refusal}
use Rattle.suit_params.specs.declared.refusal.Why.TheVariants.{Shape}
use Rattle.suit_params.specs.Refusing.{refused}
use Rattle.suit_params.specs.Reading.{head_from, only_from, content_from}
use Rattle.suit_params.specs.DigestReading.{digest_at}

abbrev pub blocks_from : ℕ → Position → Result Unit Refusal
blocks_from zero p = Ok tt
blocks_from (suc n) p = content_from p >>= λ c. blocks_from n c.1

-- the digest that the next item, a byte string, holds
abbrev pub digest_held_from : Position → Result (Digest × Position) Refusal
digest_held_from p =
    content_from p >>= λ c. only_from c.0 >>= λ item. digest_at item >>= λ digest. Ok (digest, c.1)

abbrev pub elements_after : ℕ → ℕ → Position → HeadKind → Result Digest Refusal
elements_after place n p kinds.Array =
    if n == 0 then Err (refused place Shape)
    else (digest_held_from p >>= λ d. blocks_from (n - 1) d.1 >>= λ _. Ok d.0)
elements_after place n p _ = Err (refused place Shape)

-- a whole item, read as a wrapper
unfoldable pub wrapper_at : Position → Result Digest Refusal
wrapper_at p = head_from p >>= λ h. elements_after p.place h.0.value h.1 h.0.kind
