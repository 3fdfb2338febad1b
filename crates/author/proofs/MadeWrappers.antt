-- The wrapper of an envelope that is made.
use Rattle.std.proofs.Common.{◌≡◌, ℕ, List, [], ◌∷◌, Result, Ok, Err, ap, subst, ◌∙◌, arith}
use Rattle.std.specs.Prelude.{IfOk}
use Rattle.std.specs.declared.alloc.AllocError.{AllocError}
use Rattle.det_cbor.specs.DataItem.{ByteString, ArrayOf, DataItem, NoItems, ItemThen, spell, IsString, IsValid}
use Rattle.suit_params.specs.declared.digest.Digest.{Digest}
use Rattle.suit_params.specs.DigestBytes.{IsLong}
use Rattle.suit_params.specs.Digests.{digest_item}
use Rattle.suit_envelope.specs.WrapperParts.{WrapperSays}

abbrev two : List ℕ → List ℕ → DataItem
two stated block = ArrayOf (ItemThen (ByteString stated) (ItemThen (ByteString block) NoItems))

says : (digest : Digest) (block w : List ℕ) → IsLong digest → IsValid (digest_item digest) → w ≡ spell (two (spell (digest_item digest)) block) → IsString (spell (digest_item digest)) × IsString block
    → WrapperSays w digest (block ∷ [])
says digest block w long valid is strings = record {
  spells = record { valid = (omega arith, omega arith, (strings.0, (strings.1, tt))); is = is };
  digest_valid = valid;
  long = long;
}

pub wrapper_says : (digest : Digest) (stated block made : List ℕ) (r : Result (List ℕ) AllocError) → IsLong digest → IsValid (digest_item digest) → stated ≡ spell (digest_item digest) → block ≡ made
    → IfOk r (λ w. w ≡ spell (two stated block)) → IfOk r (λ w. IsString stated × IsString block) → IfOk r (λ w. WrapperSays w digest (made ∷ []))
wrapper_says digest stated block made (Ok w) long valid stated_is block_is is strings =
    subst (λ (b : List ℕ). WrapperSays w digest (b ∷ [])) block_is
    (says digest block w long valid (is ∙ ap (λ (s : List ℕ). spell (two s block)) stated_is) (subst IsString stated_is strings.0, strings.1))
wrapper_says digest stated block made (Err e) long valid stated_is block_is is strings = tt
