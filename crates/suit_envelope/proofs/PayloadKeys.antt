-- No two payloads of an envelope have the same key, so looking up a key finds the payload that has it.
use Rattle.std.proofs.Common.{◌≡◌, ◌≢◌, ℕ, zero, suc, Bool, true, false, List, [], ◌∷◌, Some, refl, sym, ap, subst, ◌∙◌, inl, inr, arith}
use Rattle.std.specs.List.{AllByRecursion, Contains}
use Rattle.std.specs.Str.{bytes_eq}
use Rattle.std.specs.Cmp.Lexicographic.{bytes_decides}
use Rattle.std.proofs.lemmas.List.Elements.{Contains-append_right}
use Rattle.det_cbor.specs.DataItem.{DataItem, UnsignedInteger, NegativeInteger, ByteString, TextString, ArrayOf, MapOf, TaggedItem, Boolean, NullItem, spell, IsAbove}
use Rattle.det_cbor.specs.ResultLaws.{chosen}
use Rattle.suit_envelope.specs.Envelopes.{Entry}
use Rattle.suit_envelope.specs.Payloads.{payload_then, integrated_payloads, payload_under}
use Rattle.suit_envelope.proofs.EntryOrder.{not_above_itself, AreAbove, AreAscending}

abbrev pub Payloads : Type 0
Payloads = List (List ℕ × List ℕ)

-- ---- the order of keys

-- the key of each payload sorts above this spelling
abbrev KeysAbove : List ℕ → Payloads → Type 0
KeysAbove a ps = AllByRecursion (λ (p : List ℕ × List ℕ). IsAbove (Some a) (spell (TextString p.0))) ps

-- no key occurs twice
abbrev pub AreApart : Payloads → Type 0
AreApart [] = Unit {0}
AreApart (p ∷ ps) = AllByRecursion (λ (q : List ℕ × List ℕ). p.0 ≢ q.0) ps × AreApart ps

then_above : (a : List ℕ) (key value : DataItem) (others : Payloads) → IsAbove (Some a) (spell key) → KeysAbove a others → KeysAbove a (payload_then key value others)
then_above a (TextString text) (ByteString content) others above rest = (above, rest)
then_above a (TextString text) (UnsignedInteger n) others above rest = rest
then_above a (TextString text) (NegativeInteger n) others above rest = rest
then_above a (TextString text) (TextString t) others above rest = rest
then_above a (TextString text) (ArrayOf xs) others above rest = rest
then_above a (TextString text) (MapOf ps) others above rest = rest
then_above a (TextString text) (TaggedItem tag x) others above rest = rest
then_above a (TextString text) (Boolean b) others above rest = rest
then_above a (TextString text) NullItem others above rest = rest
then_above a _ value others above rest = rest

keys_above : (a : List ℕ) (es : List Entry) → AreAbove a es → KeysAbove a (integrated_payloads es)
keys_above a [] above = tt
keys_above a (e ∷ es) above = then_above a e.key e.value _ above.0 (keys_above a es above.1)

other_keys : (text : List ℕ) (ps : Payloads) → KeysAbove (spell (TextString text)) ps → AllByRecursion (λ (q : List ℕ × List ℕ). text ≢ q.0) ps
other_keys text [] above = tt
other_keys text (p ∷ ps) above = (λ e. not_above_itself (spell (TextString text)) (subst (λ (t : List ℕ). IsAbove (Some (spell (TextString text))) (spell (TextString t))) (sym e) above.0), other_keys text ps above.1)

then_apart : (key value : DataItem) (others : Payloads) → KeysAbove (spell key) others → AreApart others → AreApart (payload_then key value others)
then_apart (TextString text) (ByteString content) others above rest = (other_keys text others above, rest)
then_apart (TextString text) (UnsignedInteger n) others above rest = rest
then_apart (TextString text) (NegativeInteger n) others above rest = rest
then_apart (TextString text) (TextString t) others above rest = rest
then_apart (TextString text) (ArrayOf xs) others above rest = rest
then_apart (TextString text) (MapOf ps) others above rest = rest
then_apart (TextString text) (TaggedItem tag x) others above rest = rest
then_apart (TextString text) (Boolean b) others above rest = rest
then_apart (TextString text) NullItem others above rest = rest
then_apart _ value others above rest = rest

pub payloads_apart : (es : List Entry) → AreAscending es → AreApart (integrated_payloads es)
payloads_apart [] ascend = tt
payloads_apart (e ∷ es) ascend = then_apart e.key e.value _ (keys_above (spell e.key) es ascend.0) (payloads_apart es ascend.1)

-- ---- looking up

other_key : (text key content : List ℕ) (ps : Payloads) → AllByRecursion (λ (q : List ℕ × List ℕ). text ≢ q.0) ps → Contains ps (key, content) → text ≢ key
other_key text key content [] others (k, lt, is) = absurd (omega arith)
other_key text key content (p ∷ ps) others (zero, lt, is) = λ e. others.0 (e ∙ sym (ap (λ (q : List ℕ × List ℕ). q.0) is))
other_key text key content (p ∷ ps) others (suc k, lt, is) = other_key text key content ps others.1 (k, omega arith, is)

false_test : (a b : List ℕ) → a ≢ b → bytes_eq a b ≡ false
false_test a b other = by_test (bytes_eq a b) refl
  where
    by_test : (t : Bool) → bytes_eq a b ≡ t → t ≡ false
    by_test true e = absurd (other ((bytes_decides a b).0 e))
    by_test false e = refl

pub contained_under : (ps : Payloads) (key content : List ℕ) → AreApart ps → Contains ps (key, content) → payload_under ps key ≡ Some content
contained_under [] key content apart (k, lt, is) = absurd (omega arith)
contained_under (p ∷ ps) key content apart (zero, lt, is) =
    let same : p.0 ≡ key = ap (λ (q : List ℕ × List ℕ). q.0) is in
    let test : bytes_eq p.0 key ≡ true = (bytes_decides p.0 key).1 same in
    rw test (ap (λ (q : List ℕ × List ℕ). Some q.1) is)
contained_under (p ∷ ps) key content apart (suc k, lt, is) =
    let rest : Contains ps (key, content) = (k, omega arith, is) in
    let test : bytes_eq p.0 key ≡ false = false_test p.0 key (other_key p.0 key content ps apart.0 rest) in
    rw test (contained_under ps key content apart.1 rest)

pub under_contained : (ps : Payloads) (key content : List ℕ) → payload_under ps key ≡ Some content → Contains ps (key, content)
under_contained [] key content e = absurd cc
under_contained (p ∷ ps) key content e =
    elim (chosen (bytes_eq p.0 key) (Some p.1) (payload_under ps key) (Some content) e) [
      | inl (test, is) ↦
          let same : p.0 ≡ key = (bytes_decides p.0 key).0 test in
          let value : p.1 ≡ content = cc in
          (0, omega arith, λ i. (same i, value i))
      | inr (test, is) ↦ Contains-append_right (p ∷ []) ps (key, content) (under_contained ps key content is)
    ]
