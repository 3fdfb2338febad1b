-- Asking for the numbers of a table one after another finds what is under each, and stops at the first
-- unknown key.
use Rattle.std.proofs.Common.{◌≡◌, ℕ, ◌<◌, Bool, true, false, List, [], ◌∷◌, Option, Some, None, Result, Ok, Err, refl, sym, ap, subst, ◌∙◌, arith, inl, inr}
use Rattle.std.specs.Prelude.{◌==◌, ◌⊎◌, if◌then◌else◌}
use Rattle.std.specs.List.{AllByRecursion}
use Rattle.std.proofs.lemmas.Bool.{eqb-true, eq-eqb}
use Rattle.det_cbor.specs.DataItem.{DataItem, UnsignedInteger}
use Rattle.det_cbor.specs.HeadReading.{◌>>=◌}
use Rattle.suit_params.specs.declared.refusal.Refusal.{Refusal}
use Rattle.suit_params.specs.declared.refusal.Why.TheVariants.{UnknownKey}
use Rattle.suit_params.specs.Refusing.{refused}
use Rattle.suit_params.specs.Judging.{judge_each}
use Rattle.suit_commands.specs.Selections.{Among}
use Rattle.suit_envelope.specs.Envelopes.{Entry, is_number}
use Rattle.suit_manifest.specs.ManifestLaws.{IsAboveNumber, NumbersAscend}
use Rattle.suit_manifest.specs.MapReading.{judge_key, judge_entry}
use Rattle.suit_manifest.specs.Maps.{entry_under, IsKeyAmong}
use Rattle.suit_manifest.proofs.MapLaws.{key_ok}
use Rattle.suit_manifest.proofs.RowsAgain.{KeysAscend, not_same, among_above}

-- the key is a number
abbrev IsNumbered : Entry → Type 0
IsNumbered e = (n : ℕ) × (e.key ≡ UnsignedInteger n)

-- the first entry, if it is under this number, and the entries after it
abbrev pub head_under : ℕ → List Entry → Option Entry
head_under n [] = None
head_under n (e ∷ es) = if is_number n e.key then Some e else None

abbrev pub rest_after : ℕ → List Entry → List Entry
rest_after n [] = []
rest_after n (e ∷ es) = if is_number n e.key then es else e ∷ es

abbrev pub left_over : List ℕ → List Entry → List Entry
left_over [] es = es
left_over (k ∷ ks) es = left_over ks (rest_after k es)

-- the key of an entry that is left is unknown
abbrev pub ending : List Entry → Result Unit Refusal
ending [] = Ok tt
ending (e ∷ es) = Err (refused e.key_place UnknownKey)

-- ---- which keys are known

either : (b : Bool) → (b ≡ true) ⊎ (b ≡ false)
either true = inl refl
either false = inr refl

-- a number that is not the key's does not make the key known
other_key : (k : ℕ) (ks : List ℕ) (place : ℕ) (key : DataItem) → is_number k key ≡ false → judge_key (k ∷ ks) place key ≡ judge_key ks place key
other_key k ks place (UnsignedInteger m) other =
    let differs : (k == m) ≡ false = not_same k m (λ same. let never : true ≡ false = sym (eq-eqb m k (sym same)) ∙ other in absurd cc) in
    rw differs refl
other_key k ks place _ other = refl

same_key : (k : ℕ) (ks : List ℕ) (place : ℕ) (key : DataItem) → is_number k key ≡ true → judge_key (k ∷ ks) place key ≡ Ok k
same_key k ks place (UnsignedInteger m) same =
    let is : m ≡ k = eqb-true m k same in
    subst (λ (n : ℕ). judge_key (k ∷ ks) place (UnsignedInteger n) ≡ Ok k) (sym is) (let here : (k == k) ≡ true = eq-eqb k k refl in rw here refl)
same_key k ks place _ same = absurd cc

no_number : (k m : ℕ) (key : DataItem) → key ≡ UnsignedInteger m → (m ≡ k → ⊥) → is_number k key ≡ false
no_number k m key is other = subst (λ (x : DataItem). is_number k x ≡ false) (sym is) (not_same m k other)

-- if all keys are above this number
narrow : (k : ℕ) (ks : List ℕ) (es : List Entry) → AllByRecursion (IsAboveNumber k) es → judge_each (judge_entry (k ∷ ks)) es ≡ judge_each (judge_entry ks) es
narrow k ks [] above = refl
narrow k ks (e ∷ es) above =
    let one : judge_key (k ∷ ks) e.key_place e.key ≡ judge_key ks e.key_place e.key = other_key k ks e.key_place e.key (by_key e.key above.0) in
    rw (one, narrow k ks es above.1) refl
  where
    by_key : (key : DataItem) → ((m : ℕ) → key ≡ UnsignedInteger m → k < m) → is_number k key ≡ false
    by_key (UnsignedInteger m) low = let lt = low m refl in not_same m k (λ same. absurd (omega (arith, same)))
    by_key _ low = refl

above_more : (k m : ℕ) (es : List Entry) → k < m → AllByRecursion (IsAboveNumber m) es → AllByRecursion (IsAboveNumber k) es
above_more k m [] lt above = tt
above_more k m (e ∷ es) lt above = (λ n is. let next = above.0 n is in omega arith, above_more k m es lt above.1)

abbrev known_one : ℕ → Result Unit Refusal
known_one n = Ok tt

-- if the first key is another one
narrow_front : (k : ℕ) (ks : List ℕ) (e : Entry) (es : List Entry) → KeysAscend k ks → NumbersAscend (e ∷ es) → is_number k e.key ≡ false → judge_each (judge_entry (k ∷ ks)) (e ∷ es) ≡ judge_each (judge_entry ks) (e ∷ es)
narrow_front k ks e es up ascend other = rw (other_key k ks e.key_place e.key other) (by_first (judge_key ks e.key_place e.key) refl)
  where
    by_first : (r : Result ℕ Refusal) → judge_key ks e.key_place e.key ≡ r → ((r >>= known_one) >>= λ _. judge_each (judge_entry (k ∷ ks)) es) ≡ ((r >>= known_one) >>= λ _. judge_each (judge_entry ks) es)
    by_first (Err bad) is = refl
    by_first (Ok n) is = let found = key_ok ks e.key_place e.key n is in narrow k ks es (above_more k n es (among_above k n ks up found.0) (ascend.0 n found.1))

number_is : (n : ℕ) (key : DataItem) → is_number n key ≡ true → key ≡ UnsignedInteger n
number_is n (UnsignedInteger m) is = ap UnsignedInteger (eqb-true m n is)
number_is n _ is = absurd cc

no_key : (place : ℕ) (key : DataItem) → judge_key [] place key ≡ Err (refused place UnknownKey)
no_key place (UnsignedInteger m) = refl
no_key place _ = refl

-- the keys of a map are known if no entry is left
pub known_or_left : (ks : List ℕ) (low : ℕ) (es : List Entry) → KeysAscend low ks → NumbersAscend es → judge_each (judge_entry ks) es ≡ ending (left_over ks es)
known_or_left [] low [] up ascend = refl
known_or_left [] low (e ∷ es) up ascend = rw (no_key e.key_place e.key) refl
known_or_left (k ∷ ks) low [] up ascend = known_or_left ks k [] up.1 tt
known_or_left (k ∷ ks) low (e ∷ es) up ascend =
    elim (either (is_number k e.key)) [
      | inl same ↦ rw (same_key k ks e.key_place e.key same, same) (narrow k ks es (ascend.0 k (number_is k e.key same)) ∙ known_or_left ks k es up.1 ascend.1)
      | inr other ↦ rw other (narrow_front k ks e es up.1 ascend other ∙ known_or_left ks k (e ∷ es) up.1 ascend)
    ]

-- ---- what is found

-- asking one after another gives what is under each number among all entries
abbrev pub AllPicked : List ℕ → List Entry → List Entry → Type 0
AllPicked [] all es = Unit {0}
AllPicked (k ∷ ks) all es = (head_under k es ≡ entry_under k all) × AllPicked ks all (rest_after k es)

narrow_known : (k : ℕ) (ks : List ℕ) (es : List Entry) → AllByRecursion (IsAboveNumber k) es → AllByRecursion (IsKeyAmong (k ∷ ks)) es → AllByRecursion (IsKeyAmong ks) es
narrow_known k ks [] above known = tt
narrow_known k ks (e ∷ es) above known = ((known.0.0, other known.0.0 (above.0 known.0.0 known.0.2) known.0.1, known.0.2), narrow_known k ks es above.1 known.1)
  where
    other : (n : ℕ) → k < n → Among n (k ∷ ks) → Among n ks
    other n lt (inl same) = absurd (omega (arith, same))
    other n lt (inr later) = later

absent_above : (k : ℕ) (es : List Entry) → AllByRecursion (IsAboveNumber k) es → AllByRecursion (IsNumbered) es → entry_under k es ≡ None
absent_above k [] above all = refl
absent_above k (e ∷ es) above all =
    let lt = above.0 all.0.0 all.0.1 in
    rw (no_number k all.0.0 e.key all.0.1 (λ same. absurd (omega (arith, same)))) (absent_above k es above.1 all.1)

numbered : (ks : List ℕ) (es : List Entry) → AllByRecursion (IsKeyAmong ks) es → AllByRecursion IsNumbered es
numbered ks [] known = tt
numbered ks (e ∷ es) known = ((known.0.0, known.0.2), numbered ks es known.1)

pub all_picked : (ks : List ℕ) (low : ℕ) (all es : List Entry) → KeysAscend low ks → NumbersAscend es → AllByRecursion (IsKeyAmong ks) es → ((n : ℕ) → Among n ks → entry_under n es ≡ entry_under n all) → AllPicked ks all es
all_picked [] low all es up ascend known same = tt
all_picked (k ∷ ks) low all [] up ascend known same = (same k (inl refl), all_picked ks k all [] up.1 tt tt (λ n among. same n (inr among)))
all_picked (k ∷ ks) low all (e ∷ es) up ascend known same =
    let n = known.0.0 in
    let is = known.0.2 in
    elim known.0.1 [
      | inl here ↦
          let key : e.key ≡ UnsignedInteger k = is ∙ ap UnsignedInteger here in
          let found : is_number k e.key ≡ true = subst (λ (x : DataItem). is_number k x ≡ true) (sym key) (eq-eqb k k refl) in
          let first : head_under k (e ∷ es) ≡ entry_under k (e ∷ es) = rw found refl in
          let later : (m : ℕ) → Among m ks → entry_under m es ≡ entry_under m all =
          λ m among. let lt = among_above k m ks up.1 among in let skip : is_number m e.key ≡ false = no_number m k e.key key (λ f. absurd (omega (arith, f))) in
          let passed : entry_under m (e ∷ es) ≡ entry_under m es = rw skip refl in sym passed ∙ same m (inr among) in
          (first ∙ same k (inl refl), rw found (all_picked ks k all es up.1 ascend.1 (narrow_known k ks es (ascend.0 k key) known.1) later))
      | inr among ↦
          let lt = among_above k n ks up.1 among in
          let other : is_number k e.key ≡ false = no_number k n e.key is (λ f. absurd (omega (arith, f))) in
          let above = above_more k n es lt (ascend.0 n is) in
          let none : entry_under k (e ∷ es) ≡ None = rw other (absent_above k es above (numbered (k ∷ ks) es known.1)) in
          let first : head_under k (e ∷ es) ≡ None = rw other refl in
          (first ∙ sym none ∙ same k (inl refl), rw other (all_picked ks k all (e ∷ es) up.1 ascend ((n, among, is), narrow_known k ks es above known.1) (λ m a. same m (inr a))))
    ]
