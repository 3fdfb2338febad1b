-- Putting what entries say one after another is the same as looking up each number.
use Rattle.std.proofs.Common.{◌≡◌, ◌≢◌, ℕ, Bool, true, false, cond, eqb, List, [], ◌∷◌, Option, Some, None, refl, sym, ap, subst, ◌∙◌, inl, inr, ◌⊎◌}
use Rattle.std.specs.Prelude.{◌||◌, option_map}
use Rattle.std.specs.Option.{option_map_or}
use Rattle.std.specs.List.{AllByRecursion}
use Rattle.std.proofs.lemmas.Bool.{eqb-true, eq-eqb}
use Rattle.det_cbor.specs.DataItem.{DataItem, UnsignedInteger, spell, IsAbove}
use Rattle.suit_params.specs.Refusing.{IsByteString, content_place}
use Rattle.suit_params.specs.HeldLaws.{by_string}
use Rattle.suit_envelope.specs.Envelopes.{Entry, EnvelopeSays, map_entries, key_of, is_number, has_key, says_nothing, put, put_value, put_all, IsValue}
use Rattle.suit_envelope.specs.EntriesSay.{content_at, under, SaysEntries}
use Rattle.suit_envelope.specs.Said.{EnvelopeOf}
use Rattle.suit_envelope.specs.declared.key.Key.{Key}
use Rattle.suit_envelope.specs.declared.key.Key.TheVariants.{Wrapper, Manifest, PayloadFetch, Install, Text, Payload, Unknown}
use Rattle.suit_envelope.proofs.EntryOrder.{not_above_itself, AreAbove, AreAscending, entries_ascend}
use Rattle.suit_envelope.proofs.EnvelopeJudging.{map_fits}

-- ---- no number occurs twice

number_is : (n : ℕ) (k : DataItem) → is_number n k ≡ true → k ≡ UnsignedInteger n
number_is n (UnsignedInteger m) e = ap UnsignedInteger (eqb-true m n e)
number_is n _ e = absurd cc

either : (b : Bool) → (b ≡ true) ⊎ (b ≡ false)
either true = inl refl
either false = inr refl

nothing_again : (n : ℕ) (es : List Entry) → AreAbove (spell (UnsignedInteger n)) es → under n es ≡ None
nothing_again n [] above = refl
nothing_again n (e ∷ es) above =
    elim (either (is_number n e.key)) [
      | inl same ↦ absurd (not_above_itself (spell (UnsignedInteger n)) (subst (λ (k : DataItem). IsAbove (Some (spell (UnsignedInteger n))) (spell k)) (number_is n e.key same) above.0))
      | inr other ↦ rw other (nothing_again n es above.1)
    ]

-- ---- numbers of keys

abbrev Keyed : DataItem → Key → Type 0
Keyed k Wrapper = k ≡ UnsignedInteger 2
Keyed k Manifest = k ≡ UnsignedInteger 3
Keyed k PayloadFetch = k ≡ UnsignedInteger 16
Keyed k Install = k ≡ UnsignedInteger 20
Keyed k Text = k ≡ UnsignedInteger 23
Keyed k Payload = Unit {0}
Keyed k Unknown = Unit {0}

numbered : (n : ℕ) → Keyed (UnsignedInteger n) (key_of (UnsignedInteger n))
numbered n =
    elim (either (eqb n 2)) [
      | inl a ↦ rw a (ap UnsignedInteger (eqb-true n 2 a))
      | inr a ↦ rw a (elim (either (eqb n 3)) [
        | inl b ↦ rw b (ap UnsignedInteger (eqb-true n 3 b))
        | inr b ↦ rw b (elim (either (eqb n 16)) [
          | inl c ↦ rw c (ap UnsignedInteger (eqb-true n 16 c))
          | inr c ↦ rw c (elim (either (eqb n 20)) [
            | inl d ↦ rw d (ap UnsignedInteger (eqb-true n 20 d))
            | inr d ↦ rw d (elim (either (eqb n 23)) [
              | inl f ↦ rw f (ap UnsignedInteger (eqb-true n 23 f))
              | inr f ↦ rw f tt
            ])
          ])
        ])
      ])
    ]

keyed : (k : DataItem) → Keyed k (key_of k)
keyed (UnsignedInteger n) = numbered n
keyed _ = tt

-- ---- a part of what is said that only one key puts

record PutBy (X : Type 0) (part : EnvelopeSays → X) (value : List ℕ × ℕ → X) (n : ℕ) (key : Key) : Type 0 where
  here : (s : EnvelopeSays) (content : List ℕ) (place : ℕ) → part (put s key content place) ≡ value (content, place)
  other : (s : EnvelopeSays) (k : Key) (content : List ℕ) (place : ℕ) → k ≢ key → part (put s k content place) ≡ part s
  number : key_of (UnsignedInteger n) ≡ key
  only : (k : DataItem) → key_of k ≡ key → k ≡ UnsignedInteger n

module _ (X : Type 0) (part : EnvelopeSays → X) (value : List ℕ × ℕ → X) (n : ℕ) (key : Key) (by : PutBy X part value n key) where
  entry_here : (s : EnvelopeSays) (e : Entry) → IsByteString e.value → is_number n e.key ≡ true → part (put_value s (key_of e.key) e.value_place e.value) ≡ option_map_or value (content_at e.value_place e.value) (part s)
  entry_here s e bytes same =
      let is : key_of e.key ≡ key = ap key_of (number_is n e.key same) ∙ by.number in
      ap (λ (k : Key). part (put_value s k e.value_place e.value)) is
      ∙ by_string (λ (y : DataItem). IsByteString y → part (put_value s key e.value_place y) ≡ option_map_or value (content_at e.value_place y) (part s))
      (λ content b. by.here s content (content_place e.value_place content))
      (λ y other b. absurd (other.other b))
      e.value bytes

  entry_other : (s : EnvelopeSays) (e : Entry) → IsByteString e.value → is_number n e.key ≡ false → part (put_value s (key_of e.key) e.value_place e.value) ≡ part s
  entry_other s e bytes differs =
      let other : key_of e.key ≢ key = λ is. never e.key (by.only e.key is) differs in
      by_string (λ (y : DataItem). IsByteString y → part (put_value s (key_of e.key) e.value_place y) ≡ part s)
      (λ content b. by.other s (key_of e.key) content (content_place e.value_place content) other)
      (λ y o b. absurd (o.other b))
      e.value bytes
    where
      never : (k : DataItem) → k ≡ UnsignedInteger n → is_number n k ≡ false → ⊥
      never k is e = let itself : is_number n k ≡ true = ap (is_number n) is ∙ eq-eqb n n refl in let no : true ≡ false = sym itself ∙ e in absurd cc

  all_is : (s : EnvelopeSays) (es : List Entry) → AllByRecursion IsValue es → AreAscending es → part (put_all s es) ≡ option_map_or value (under n es) (part s)
  all_is s [] values ascend = refl
  all_is s (e ∷ es) values ascend =
      let t = put_value s (key_of e.key) e.value_place e.value in
      let rest : part (put_all t es) ≡ option_map_or value (under n es) (part t) = all_is t es values.1 ascend.1 in
      elim (either (is_number n e.key)) [
        | inl same ↦
            let none : under n es ≡ None = nothing_again n es (subst (λ (k : DataItem). AreAbove (spell k) es) (number_is n e.key same) ascend.0) in
            rest ∙ ap (λ (o : Option (List ℕ × ℕ)). option_map_or value o (part t)) none ∙ entry_here s e values.0.0 same ∙ rw same refl
        | inr differs ↦ rest ∙ ap (λ (x : X). option_map_or value (under n es) x) (entry_other s e values.0.0 differs) ∙ rw differs refl
      ]

-- ---- each part

each_key : (P : Key → Type 0) → P Wrapper → P Manifest → P PayloadFetch → P Install → P Text → P Payload → P Unknown → (k : Key) → P k
each_key P w m f i t p u Wrapper = w
each_key P w m f i t p u Manifest = m
each_key P w m f i t p u PayloadFetch = f
each_key P w m f i t p u Install = i
each_key P w m f i t p u Text = t
each_key P w m f i t p u Payload = p
each_key P w m f i t p u Unknown = u

abbrev wrapper_part : EnvelopeSays → List ℕ × ℕ
wrapper_part s = (s.wrapper, s.wrapper_place)

abbrev manifest_part : EnvelopeSays → List ℕ × ℕ
manifest_part s = (s.manifest, s.manifest_place)

-- a part that only one key changes
abbrev Stays : (X : Type 0) (part : EnvelopeSays → X) (key : Key) → Type 0
Stays X part key = (s : EnvelopeSays) (k : Key) (content : List ℕ) (place : ℕ) → k ≢ key → part (put s k content place) ≡ part s

only_keyed : (key : Key) (k : DataItem) → key_of k ≡ key → Keyed k key
only_keyed key k e = subst (Keyed k) e (keyed k)

wrapper_stays : Stays (List ℕ × ℕ) wrapper_part Wrapper
wrapper_stays s k content place =
    each_key (λ (k : Key). k ≢ Wrapper → wrapper_part (put s k content place) ≡ wrapper_part s) (λ n. absurd (n refl)) (λ n. refl) (λ n. refl) (λ n. refl) (λ n. refl) (λ n. refl) (λ n. refl) k

manifest_stays : Stays (List ℕ × ℕ) manifest_part Manifest
manifest_stays s k content place =
    each_key (λ (k : Key). k ≢ Manifest → manifest_part (put s k content place) ≡ manifest_part s) (λ n. refl) (λ n. absurd (n refl)) (λ n. refl) (λ n. refl) (λ n. refl) (λ n. refl) (λ n. refl) k

fetch_stays : Stays (Option (List ℕ)) (λ s. s.payload_fetch) PayloadFetch
fetch_stays s k content place =
    each_key (λ (k : Key). k ≢ PayloadFetch → (put s k content place).payload_fetch ≡ s.payload_fetch) (λ n. refl) (λ n. refl) (λ n. absurd (n refl)) (λ n. refl) (λ n. refl) (λ n. refl) (λ n. refl) k

fetch_place_stays : Stays ℕ (λ s. s.payload_fetch_place) PayloadFetch
fetch_place_stays s k content place =
    each_key (λ (k : Key). k ≢ PayloadFetch → (put s k content place).payload_fetch_place ≡ s.payload_fetch_place) (λ n. refl) (λ n. refl) (λ n. absurd (n refl)) (λ n. refl) (λ n. refl) (λ n. refl) (λ n. refl) k

install_stays : Stays (Option (List ℕ)) (λ s. s.install) Install
install_stays s k content place =
    each_key (λ (k : Key). k ≢ Install → (put s k content place).install ≡ s.install) (λ n. refl) (λ n. refl) (λ n. refl) (λ n. absurd (n refl)) (λ n. refl) (λ n. refl) (λ n. refl) k

install_place_stays : Stays ℕ (λ s. s.install_place) Install
install_place_stays s k content place =
    each_key (λ (k : Key). k ≢ Install → (put s k content place).install_place ≡ s.install_place) (λ n. refl) (λ n. refl) (λ n. refl) (λ n. absurd (n refl)) (λ n. refl) (λ n. refl) (λ n. refl) k

text_stays : Stays (Option (List ℕ)) (λ s. s.text) Text
text_stays s k content place =
    each_key (λ (k : Key). k ≢ Text → (put s k content place).text ≡ s.text) (λ n. refl) (λ n. refl) (λ n. refl) (λ n. refl) (λ n. absurd (n refl)) (λ n. refl) (λ n. refl) k

content_is : (o : Option (List ℕ × ℕ)) → option_map_or (λ (c : List ℕ × ℕ). Some c.0) o None ≡ option_map (λ (c : List ℕ × ℕ). c.0) o
content_is None = refl
content_is (Some c) = refl

-- a required key has an entry
there : (n : ℕ) (es : List Entry) → AllByRecursion IsValue es → has_key n es ≡ true → (c : List ℕ × ℕ) × (under n es ≡ Some c)
there n [] values has = absurd cc
there n (e ∷ es) values has =
    elim (either (is_number n e.key)) [
      | inl same ↦
          by_string (λ (y : DataItem). IsByteString y → (c : List ℕ × ℕ) × (cond (is_number n e.key) (content_at e.value_place y) (under n es) ≡ Some c))
          (λ content b. ((content, content_place e.value_place content), rw same refl))
          (λ y other b. absurd (other.other b))
          e.value values.0.0
      | inr differs ↦ let rest = there n es values.1 (later (is_number n e.key) differs has) in (rest.0, ap (λ (b : Bool). cond b (content_at e.value_place e.value) (under n es)) differs ∙ rest.1)
    ]
  where
    later : (b : Bool) → b ≡ false → (b || has_key n es) ≡ true → has_key n es ≡ true
    later true differs e = absurd cc
    later false differs e = e

looked_up : (o : Option (List ℕ × ℕ)) (c said default : List ℕ × ℕ) → o ≡ Some c → said ≡ option_map_or (λ (x : List ℕ × ℕ). x) o default → o ≡ Some said
looked_up o c said default some is = let same : said ≡ c = is ∙ ap (λ (p : Option (List ℕ × ℕ)). option_map_or (λ (x : List ℕ × ℕ). x) p default) some in some ∙ sym (ap (λ (x : List ℕ × ℕ). Some x) same)

says_entries : (tagged : Bool) (es : List Entry) → AllByRecursion IsValue es → AreAscending es → has_key 2 es ≡ true → has_key 3 es ≡ true → SaysEntries es (put_all (says_nothing tagged) es)
says_entries tagged es values ascend two three =
    let s = says_nothing tagged in
    let said = put_all s es in
    let wrapper = all_is (List ℕ × ℕ) wrapper_part (λ c. c) 2 Wrapper (record { here = λ s c p. refl; other = wrapper_stays; number = refl; only = only_keyed Wrapper }) s es values ascend in
    let manifest = all_is (List ℕ × ℕ) manifest_part (λ c. c) 3 Manifest (record { here = λ s c p. refl; other = manifest_stays; number = refl; only = only_keyed Manifest }) s es values ascend in
    let first = there 2 es values two in
    let second = there 3 es values three in
    record {
      wrapper = looked_up (under 2 es) first.0 (wrapper_part said) ([], 0) first.1 wrapper;
      manifest = looked_up (under 3 es) second.0 (manifest_part said) ([], 0) second.1 manifest;
      payload_fetch = sym (all_is (Option (List ℕ)) (λ s. s.payload_fetch) (λ c. Some c.0) 16 PayloadFetch (record { here = λ s c p. refl; other = fetch_stays; number = refl; only = only_keyed PayloadFetch }) s es values ascend ∙ content_is (under 16 es));
      payload_fetch_place = sym (all_is ℕ (λ s. s.payload_fetch_place) (λ c. c.1) 16 PayloadFetch (record { here = λ s c p. refl; other = fetch_place_stays; number = refl; only = only_keyed PayloadFetch }) s es values ascend);
      install = sym (all_is (Option (List ℕ)) (λ s. s.install) (λ c. Some c.0) 20 Install (record { here = λ s c p. refl; other = install_stays; number = refl; only = only_keyed Install }) s es values ascend ∙ content_is (under 20 es));
      install_place = sym (all_is ℕ (λ s. s.install_place) (λ c. c.1) 20 Install (record { here = λ s c p. refl; other = install_place_stays; number = refl; only = only_keyed Install }) s es values ascend);
      text = sym (all_is (Option (List ℕ)) (λ s. s.text) (λ c. Some c.0) 23 Text (record { here = λ s c p. refl; other = text_stays; number = refl; only = only_keyed Text }) s es values ascend ∙ content_is (under 23 es));
    }

pub entries_say : (bytes : List ℕ) (said : EnvelopeSays) (envelope : EnvelopeOf bytes said) → SaysEntries (map_entries envelope.says_so.map) said
entries_say bytes said envelope =
    let is = envelope.says_so in
    let m = is.map in
    let fits = map_fits 0 0 envelope.item m envelope.spells.valid is.shape in
    subst (SaysEntries (map_entries m)) (sym is.says) (says_entries m.tagged (map_entries m) is.values (entries_ascend fits.within _ None m.pairs fits.valid) is.required.0 is.required.1.0)
