-- Keys of payloads are texts.
use Rattle.std.proofs.Common.{◌≡◌, ℕ, zero, suc, Bool, true, false, cond, List, [], ◌∷◌, Option, Some, None, Result, Ok, Err, refl, sym, ap, subst, ◌∙◌}
use Rattle.std.specs.Str.{bytes_eq, is_utf8}
use Rattle.std.specs.Cmp.Lexicographic.{bytes_decides}
use Rattle.std.proofs.lemmas.Bool.{true≢false}
use Rattle.det_cbor.specs.HeadReading.{◌>>=◌}
use Rattle.det_cbor.specs.ItemReading.{utf8_text}
use Rattle.det_cbor.specs.Position.{Position}
use Rattle.suit_params.specs.declared.refusal.Refusal.{Refusal}
use Rattle.suit_params.specs.Reading.{content_from}
use Rattle.suit_envelope.specs.Payloads.{HasPayloads, payload_under}
use Rattle.suit_envelope.specs.PayloadListing.{keyed, listed_then, listed_after, listed_from, listed_where, listed_payloads}
use Rattle.suit_envelope.specs.PayloadReading.{text_from, counted_from}
use Rattle.suit_envelope.specs.WrapperParts.{start_of}
use Rattle.suit_envelope.proofs.PayloadsListed.{are_listed}
use Rattle.path_model.specs.Settings.{found_under}

abbrev Payloads : Type 0
Payloads = List (List ℕ × List ℕ)

-- an envelope's look-up is that of plays
same_lookup : (ps : Payloads) (key : List ℕ) → payload_under ps key ≡ found_under ps key
same_lookup [] key = refl
same_lookup (p ∷ ps) key = ap (λ (o : Option (List ℕ)). cond (bytes_eq p.0 key) (Some p.1) o) (same_lookup ps key)

-- ---- bytes that are no text

module _ (key : List ℕ) (no : is_utf8 key ≡ false) where
  not_same : (text content : List ℕ) (ps : Payloads) (same : Bool) → is_utf8 text ≡ true → found_under ps key ≡ None → bytes_eq text key ≡ same
      → cond same (Some content) (found_under ps key) ≡ None
  not_same text content ps true good rest e = absurd (true≢false (sym good ∙ ap is_utf8 ((bytes_decides text key).0 e) ∙ no))
  not_same text content ps false good rest e = rest

  not_keyed : (text : Option (List ℕ)) (content : List ℕ) (ps : Payloads) → found_under ps key ≡ None → found_under (listed_then (keyed text content) ps) key ≡ None
  not_keyed None content ps rest = rest
  not_keyed (Some text) content ps rest = by_text (is_utf8 text) refl
    where
      by_text : (is : Bool) → is_utf8 text ≡ is → found_under (listed_then (keyed (Some text) content) ps) key ≡ None
      by_text true e = rw e (not_same text content ps (bytes_eq text key) e rest refl)
      by_text false e = rw e rest

  module _ (later : Position → Payloads) (rest : (q : Position) → found_under (later q) key ≡ None) where
    not_content : (text : Option (List ℕ)) (r : Result (Position × Position) Refusal) → found_under (listed_after later (r >>= λ c. Ok (keyed text c.0.left, c.1))) key ≡ None
    not_content text (Ok c) = not_keyed text c.0.left (later c.1) (rest c.1)
    not_content text (Err e) = refl

    not_pair : (r : Result (Option (List ℕ) × Position) Refusal) → found_under (listed_after later (r >>= λ t. content_from t.1 >>= λ c. Ok (keyed t.0 c.0.left, c.1))) key ≡ None
    not_pair (Ok t) = not_content t.0 (content_from t.1)
    not_pair (Err e) = refl

  not_among : (n : ℕ) (p : Position) → found_under (listed_from n p) key ≡ None
  not_among zero p = refl
  not_among (suc n) p = not_pair (λ q. listed_from n q) (λ q. not_among n q) (text_from p)

  not_in : (r : Result (ℕ × Position) Refusal) → found_under (listed_where r) key ≡ None
  not_in (Ok m) = not_among m.0 m.1
  not_in (Err e) = refl

  not_listed : (bytes : List ℕ) (payloads : Payloads) → HasPayloads bytes payloads → found_under payloads key ≡ None
  not_listed bytes payloads has =
      subst (λ (ps : Payloads). found_under ps key ≡ None) (are_listed bytes (listed_payloads bytes) payloads refl has)
      (not_in (counted_from (start_of bytes)))

-- ---- the result of a test of bytes

text_where : (key : List ℕ) (is : Bool) (text : List ℕ) → Some text ≡ cond is (Some key) None → text ≡ key
text_where key true text e = cc
text_where key false text e = absurd cc

none_where : (key : List ℕ) (is : Bool) → None ≡ cond is (Some key) None → is ≡ false
none_where key true e = absurd cc
none_where key false e = refl

pub found_by_text : (key text : List ℕ) (payloads : Payloads) (found : Option (List ℕ)) → Some text ≡ utf8_text key → found ≡ payload_under payloads text → found ≡ found_under payloads key
found_by_text key text payloads found e is =
    is ∙ same_lookup payloads text ∙ ap (found_under payloads) (text_where key (is_utf8 key) text e)

pub found_by_none : (bytes key : List ℕ) (payloads : Payloads) → None ≡ utf8_text key → HasPayloads bytes payloads → None ≡ found_under payloads key
found_by_none bytes key payloads e has = sym (not_listed key (none_where key (is_utf8 key) e) bytes payloads has)
