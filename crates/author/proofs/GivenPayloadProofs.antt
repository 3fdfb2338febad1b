-- The payloads of a description are those that stand in it.
use Rattle.std.proofs.Common.{◌≡◌, ℕ, ◌+◌, ◌≤◌, List, [], ◌∷◌, ◌++◌, length, Bool, true, false, cond, Option, Some, None, Result, Ordering, Less, Equal, Greater, refl, ap, sym, subst, ◌∙◌, inl, inr, arith}
use Rattle.std.specs.Prelude.{codes, option_and_then}
use Rattle.std.specs.Str.{bytes_eq}
use Rattle.std.specs.Ordering.{match_ordering}
use Rattle.std.proofs.lemmas.Bool.{cases_lt}
use Rattle.std.proofs.lemmas.Bool.Decides.{nat_tests}
use Rattle.std.proofs.lemmas.List.{length-append, append_cancel_left}
use Rattle.std.proofs.lemmas.Slice.Eq.{bytes_eq-Decides}
use Rattle.det_cbor.specs.DataItem.{TextString, spell}
use Rattle.det_cbor.specs.Heads.{head_bytes}
use Rattle.det_cbor.proofs.KeyOrder.{equal_keys, same_key}
use Rattle.serde_json.specs.Data.{Data, null, boolean, number, string, array, object}
use Rattle.serde_json.specs.Find.{get_member, get, as_str}
use Rattle.json_fields.specs.Objects.{members_of}
use Rattle.suit_envelope.specs.PayloadOrder.{key_order, put_payload}
use Rattle.suit_envelope.specs.Payloads.{payload_under}
use Rattle.author.specs.declared.payload_fields.PayloadField.{PayloadField}
use Rattle.author.specs.GivenParts.{bytes_spelled, bytes_given, payload_given}
use Rattle.author.specs.KeysOnce.{HasKeysOnce}
use Rattle.author.specs.Payloads.{takes_source, source_bytes, payload_of, PayloadsSoFar, takes_payload, payloads_of}
use Rattle.author.proofs.Found.{pick, one_found}
use Rattle.author.proofs.GivenValues.{holds_both, text_read, Spelled, hex_spelled}
use Rattle.author.proofs.Keeps.{Holds, WasRead, WasFlawed, holds_bind, holds_then, holds_choice}

-- ---- one payload

abbrev FileIs : Option Data → PayloadField → Type 0
FileIs o t = option_and_then as_str o ≡ t.file

abbrev SpelledBy : Option (List ℕ) → Option (List ℕ) → Type 0
SpelledBy None None = Unit {0}
SpelledBy (Some digits) (Some bytes) = bytes_spelled digits ≡ Some bytes
SpelledBy None (Some bytes) = ⊥
SpelledBy (Some digits) None = ⊥

abbrev BytesAre : Option Data → PayloadField → Type 0
BytesAre o t = SpelledBy (option_and_then as_str o) t.bytes

-- at the key that stands there
at_key : (R : Option Data → PayloadField → Type 0) (name k key : List ℕ) (d : Data) (o : Option Data) (r : Result PayloadField _) → bytes_eq k key ≡ true
    → Holds (R (pick key name d o)) r → Holds (R (pick k name d o)) r
at_key R name k key d o r e h = subst (λ (l : List ℕ). Holds (R (pick l name d o)) r) (sym ((bytes_eq-Decides k key).0 e)) h

file_step : (o : Option Data) (t : PayloadField) (k : List ℕ) (d : Data) → HasKeysOnce d → FileIs o t → Holds (FileIs (pick k (codes "file") d o)) (takes_source t k d)
file_step o t k d once h =
    holds_choice (FileIs (pick k (codes "file") d o)) (bytes_eq k (codes "file")) _ _
    (λ e. at_key FileIs (codes "file") k (codes "file") d o _ e (holds_bind (λ s. as_str d ≡ Some s) (FileIs (Some d)) _ _ (text_read d) (λ s g. WasRead _ g)))
    (λ _. holds_choice (FileIs (pick k (codes "file") d o)) (bytes_eq k (codes "hex")) _ _ (λ e. at_key FileIs (codes "file") k (codes "hex") d o _ e (holds_then (FileIs o) _ _ (λ bytes. WasRead _ h))) (λ _. WasFlawed _))

spelled_by : (o : Option (List ℕ)) (bytes : List ℕ) → option_and_then bytes_spelled o ≡ Some bytes → SpelledBy o (Some bytes)
spelled_by (Some digits) bytes h = h
spelled_by None bytes h = absurd cc

bytes_step : (o : Option Data) (t : PayloadField) (k : List ℕ) (d : Data) → HasKeysOnce d → BytesAre o t → Holds (BytesAre (pick k (codes "hex") d o)) (takes_source t k d)
bytes_step o t k d once h =
    holds_choice (BytesAre (pick k (codes "hex") d o)) (bytes_eq k (codes "file")) _ _
    (λ e. at_key BytesAre (codes "hex") k (codes "file") d o _ e (holds_then (BytesAre o) _ _ (λ name. WasRead _ h)))
    (λ _.
    holds_choice (BytesAre (pick k (codes "hex") d o)) (bytes_eq k (codes "hex")) _ _
    (λ e. at_key BytesAre (codes "hex") k (codes "hex") d o _ e (holds_bind (Spelled d) (BytesAre (Some d)) _ _ (hex_spelled d) (λ bytes g. WasRead _ (spelled_by (as_str d) bytes g)))) (λ _. WasFlawed _))

source_given : (files : List (List ℕ × List ℕ)) (file digits bytes : Option (List ℕ)) → SpelledBy digits bytes → Holds (λ b. bytes_given files file digits ≡ Some b) (source_bytes files file bytes)
source_given files (Some name) None None h = WasRead _ refl
source_given files (Some name) (Some digits) (Some bytes) h = WasFlawed _
source_given files None None None h = WasFlawed _
source_given files None (Some digits) (Some bytes) h = WasRead bytes h
source_given files file None (Some bytes) h = absurd h
source_given files file (Some digits) None h = absurd h

pub one_given : (files : List (List ℕ × List ℕ)) (d : Data) → HasKeysOnce d → Holds (λ b. payload_given files d ≡ Some b) (payload_of files d)
one_given files (object ms) once =
    let none : PayloadField = record { file = None; bytes = None } in
    let file : Option Data = get_member (codes "file") ms in
    let digits : Option Data = get_member (codes "hex") ms in
    holds_bind (λ (t : PayloadField). FileIs file t × BytesAre digits t) (λ b. payload_given files (object ms) ≡ Some b) _ _
    (holds_both (FileIs file) (BytesAre digits) (members_of takes_source none ms) (one_found takes_source FileIs (codes "file") file_step ms none once refl) (one_found takes_source BytesAre (codes "hex") bytes_step ms none once tt))
    (λ t h. subst (λ (o : Option (List ℕ)). Holds (λ b. bytes_given files (option_and_then as_str file) (option_and_then as_str digits) ≡ Some b) (source_bytes files o t.bytes)) h.0
    (source_given files (option_and_then as_str file) (option_and_then as_str digits) t.bytes h.1))
one_given files null once = WasFlawed _
one_given files (boolean b) once = WasFlawed _
one_given files (number n) once = WasFlawed _
one_given files (string s) once = WasFlawed _
one_given files (array ds) once = WasFlawed _

-- ---- texts with one spelling

head_grows : (n m : ℕ) → n ≤ m → length (head_bytes 3 n) ≤ length (head_bytes 3 m)
unfolding head_bytes
head_grows n m h = grind (arith, nat_tests)

text_length : (a : List ℕ) → length (spell (TextString a)) ≡ length (head_bytes 3 (length a)) + length a
text_length a = length-append (head_bytes 3 (length a)) a

one_length : (n m : ℕ) → length (head_bytes 3 n) + n ≡ length (head_bytes 3 m) + m → n ≡ m
one_length n m e = elim (cases_lt n m) [
  | inl less ↦ absurd (omega (arith, head_grows n m (omega arith), e))
  | inr more ↦ elim (cases_lt m n) [
    | inl less ↦ absurd (omega (arith, head_grows m n (omega arith), e))
    | inr same ↦ omega arith
  ]
]

one_text : (a b : List ℕ) → spell (TextString a) ≡ spell (TextString b) → a ≡ b
one_text a b e =
    let same : length a ≡ length b = one_length (length a) (length b) (sym (text_length a) ∙ ap length e ∙ text_length b) in
    let tails : head_bytes 3 (length a) ++ a ≡ head_bytes 3 (length a) ++ b = e ∙ ap (λ n. head_bytes 3 n ++ b) (sym same) in
    append_cancel_left (head_bytes 3 (length a)) a b tails

same_text : (a b : List ℕ) → key_order a b ≡ Equal → a ≡ b
same_text a b e = one_text a b (equal_keys (spell (TextString a)) (spell (TextString b)) e)

-- ---- payloads under their keys

abbrev Payload : Type 0
Payload = List ℕ × List ℕ

abbrev under_or : Payload → List ℕ → Option (List ℕ) → Option (List ℕ)
under_or p key other = cond (bytes_eq p.0 key) (Some p.1) other

replaced : (b : Bool) (x y : List ℕ) (o : Option (List ℕ)) → cond b (Some x) o ≡ cond b (Some x) (cond b (Some y) o)
replaced true x y o = refl
replaced false x y o = refl

apart : (p q : Payload) (key : List ℕ) (a b : Bool) (o : Option (List ℕ)) → bytes_eq p.0 key ≡ a → bytes_eq q.0 key ≡ b → (p.0 ≡ q.0 → ⊥) → cond b (Some q.1) (cond a (Some p.1) o) ≡ cond a (Some p.1) (cond b (Some q.1) o)
apart p q key true true o e k other = absurd (other ((bytes_eq-Decides p.0 key).0 e ∙ sym ((bytes_eq-Decides q.0 key).0 k)))
apart p q key true false o e k other = refl
apart p q key false b o e k other = refl

put_by : (p q : Payload) (qs : List Payload) (key : List ℕ) (o : Ordering) → key_order p.0 q.0 ≡ o → payload_under (put_payload p qs) key ≡ under_or p key (payload_under qs key)
    → payload_under (match_ordering o (p ∷ q ∷ qs) (p ∷ qs) (q ∷ put_payload p qs)) key ≡ under_or p key (payload_under (q ∷ qs) key)
put_by p q qs key Less e later = refl
put_by p q qs key Equal e later =
    replaced (bytes_eq p.0 key) p.1 q.1 (payload_under qs key)
    ∙ ap (λ (name : List ℕ). under_or p key (cond (bytes_eq name key) (Some q.1) (payload_under qs key))) (same_text p.0 q.0 e)
put_by p q qs key Greater e later =
    ap (under_or q key) later
    ∙ apart p q key (bytes_eq p.0 key) (bytes_eq q.0 key) (payload_under qs key) refl refl (λ same.
    let itself : key_order p.0 q.0 ≡ Equal = ap (λ name. key_order p.0 name) (sym same) ∙ same_key (spell (TextString p.0)) in
    absurd cc)

put_under : (p : Payload) (list : List Payload) (key : List ℕ) → payload_under (put_payload p list) key ≡ under_or p key (payload_under list key)
put_under p [] key = refl
put_under p (q ∷ qs) key = put_by p q qs key (key_order p.0 q.0) refl (put_under p qs key)

-- ---- all payloads

module _ (files : List Payload) (key : List ℕ) where
  -- what stands under the key
  abbrev pub PayloadIs : Option Data → Option (List ℕ) → Type 0
  PayloadIs None payload = payload ≡ None
  PayloadIs (Some d) payload = (bytes : List ℕ) × (payload_given files d ≡ Some bytes) × (payload ≡ Some bytes)

  abbrev SoFar : Option Data → PayloadsSoFar → Type 0
  SoFar o t = (t.files ≡ files) × PayloadIs o (payload_under t.list key)

  put_is : (b : Bool) (d : Data) (o : Option Data) (bytes : List ℕ) (under : Option (List ℕ)) → payload_given files d ≡ Some bytes → PayloadIs o under → PayloadIs (cond b (Some d) o) (cond b (Some bytes) under)
  put_is true d o bytes under g h = (bytes, g, refl)
  put_is false d o bytes under g h = h

  payload_step : (o : Option Data) (t : PayloadsSoFar) (k : List ℕ) (d : Data) → HasKeysOnce d → SoFar o t → Holds (SoFar (pick k key d o)) (takes_payload t k d)
  payload_step o t k d once h =
      holds_bind (λ bytes. payload_given files d ≡ Some bytes) (SoFar (pick k key d o)) _ _
      (subst (λ (f : List Payload). Holds (λ bytes. payload_given files d ≡ Some bytes) (payload_of f d)) (sym h.0) (one_given files d once)) (λ bytes g.
      WasRead _ (h.0, subst (PayloadIs (pick k key d o)) (sym (put_under (k, bytes) t.list key)) (put_is (bytes_eq k key) d o bytes (payload_under t.list key) g h.1)))

  pub under_key : (d : Data) → HasKeysOnce d → Holds (λ list. PayloadIs (get key d) (payload_under list key)) (payloads_of files d)
  under_key (object ms) once =
      holds_bind (SoFar (get_member key ms)) (λ list. PayloadIs (get_member key ms) (payload_under list key)) _ _ (one_found takes_payload SoFar key payload_step ms (record { files = files; list = [] }) once (refl, refl)) (λ t h. WasRead t.list h.1)
  under_key null once = WasFlawed _
  under_key (boolean b) once = WasFlawed _
  under_key (number n) once = WasFlawed _
  under_key (string s) once = WasFlawed _
  under_key (array ds) once = WasFlawed _
