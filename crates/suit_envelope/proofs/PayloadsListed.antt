-- The payloads of an envelope are listed in their order.
use Rattle.std.proofs.Common.{◌≡◌, ◌≢◌, ℕ, suc, ◌+◌, ◌-◌, ◌<◌, List, [], ◌++◌, Option, Ok, Err, refl, sym, ap, ◌∙◌, arith}
use Rattle.std.proofs.lemmas.List.{append-nil}
use Rattle.std.proofs.lemmas.Str.{is_utf8-from_IsUtf8}
use Rattle.det_cbor.specs.DataItem.{DataItem, UnsignedInteger, ByteString, TextString, IsValidWithin}
use Rattle.det_cbor.specs.Position.{Position}
use Rattle.suit_params.specs.declared.refusal.Refusal.{Refusal}
use Rattle.suit_envelope.specs.Envelopes.{key_of}
use Rattle.suit_envelope.specs.Payloads.{payload_then, HasPayloads}
use Rattle.suit_envelope.specs.PayloadListing.{keyed, listed_pair, listed_then, listed_from, listed_payloads}
use Rattle.suit_envelope.specs.declared.key.Key.TheVariants.{Unknown}
use Rattle.suit_envelope.proofs.PayloadLaws.{text_of, payloads_held}

-- a pair with this byte string as its value is the first payload, or not a payload
first_listed : (levels : ℕ) (k : DataItem) (content : List ℕ) (others : List (List ℕ × List ℕ)) → key_of k ≢ Unknown → IsValidWithin levels k
    → listed_then (keyed (text_of k) content) others ≡ payload_then k (ByteString content) others
first_listed levels (TextString text) content others known valid = rw (is_utf8-from_IsUtf8 text valid.1) refl
first_listed levels (UnsignedInteger n) content others known valid = refl
first_listed levels _ content others known valid = absurd (known refl)

payloads_read : (bytes : List ℕ) (payloads : List (List ℕ × List ℕ)) → HasPayloads bytes payloads → listed_payloads bytes ≡ payloads
payloads_read bytes payloads has =
    let found = payloads_held (λ n p ps. listed_from n p ≡ ps) (record {
      none = λ p. refl;
      more = λ n p key content others f. rw (f.text, f.held) (ap (listed_then (keyed (text_of key) content)) f.later ∙ first_listed f.levels key content others f.known f.valid);
    }) bytes payloads has in
    rw found.counted found.holds

pub are_listed : (bytes : List ℕ) (list payloads : List (List ℕ × List ℕ)) → list ≡ listed_payloads bytes → HasPayloads bytes payloads → list ≡ payloads
are_listed bytes list payloads is has = is ∙ payloads_read bytes payloads has

-- ---- one more turn of the loop, and the end of it

pub listed_step : (count i : ℕ) (p q : Position) (so_far now total : List (List ℕ × List ℕ)) (found : Option (List ℕ × List ℕ)) → i < count → Ok (found, q) ≡ listed_pair p
    → ((more : List (List ℕ × List ℕ)) → now ++ more ≡ so_far ++ listed_then found more)
    → so_far ++ listed_from (count - i) p ≡ total → now ++ listed_from (count - (i + 1)) q ≡ total
listed_step count i p q so_far now total found lt e added is =
    let one : count - i ≡ suc (count - (i + 1)) = omega arith in
    let step : listed_from (count - i) p ≡ listed_then found (listed_from (count - (i + 1)) q) = rw (one, sym e) refl in
    added (listed_from (count - (i + 1)) q) ∙ ap (λ (l : List (List ℕ × List ℕ)). so_far ++ l) (sym step) ∙ is

pub listed_refused : (count i : ℕ) (p : Position) (r : Refusal) (so_far total : List (List ℕ × List ℕ)) → i < count → Err r ≡ listed_pair p
    → so_far ++ listed_from (count - i) p ≡ total → so_far ≡ total
listed_refused count i p r so_far total lt e is =
    let one : count - i ≡ suc (count - (i + 1)) = omega arith in
    let step : listed_from (count - i) p ≡ [] = rw (one, sym e) refl in
    sym (append-nil so_far) ∙ ap (λ (l : List (List ℕ × List ℕ)). so_far ++ l) (sym step) ∙ is
