-- A map whose keys are numbers from a table, in order, is the map of its rows.
use Rattle.std.proofs.Common.{◌≡◌, ℕ, ◌+◌, ◌<◌, ◌≤◌, Bool, true, false, List, [], ◌∷◌, length, Option, Some, None, refl, sym, ap, subst, ◌∙◌, arith, inl, inr}
use Rattle.std.specs.Prelude.{◌==◌, if◌then◌else◌, option_map}
use Rattle.std.specs.List.{AllByRecursion}
use Rattle.std.proofs.lemmas.Bool.{eqb-true, eq-eqb}
use Rattle.det_cbor.specs.DataItem.{DataItem, UnsignedInteger, DataPairs, NoPairs, PairThen, spell}
use Rattle.suit_commands.specs.Selections.{Among}
use Rattle.suit_envelope.specs.Envelopes.{Entry, entries, is_number}
use Rattle.suit_manifest.specs.ManifestLaws.{IsAboveNumber, NumbersAscend}
use Rattle.suit_manifest.specs.ManifestMaking.{Row, pair_then, row_pairs}
use Rattle.suit_manifest.specs.Maps.{entry_under, IsKeyAmong}

-- the value under a number among pairs
abbrev pub value_in : ℕ → DataPairs → Option DataItem
value_in n NoPairs = None
value_in n (PairThen key value ps) = if is_number n key then Some value else value_in n ps

abbrev pub rows_in : List ℕ → DataPairs → List Row
rows_in [] ps = []
rows_in (n ∷ ns) ps = (n, value_in n ps) ∷ rows_in ns ps

-- numbers ascend from above this one
abbrev pub KeysAscend : ℕ → List ℕ → Type 0
KeysAscend low [] = Unit {0}
KeysAscend low (k ∷ ks) = (low < k) × KeysAscend k ks

-- the key is one of these numbers, above this one
pub record IsKeyed (keys : List ℕ) (low : ℕ) (key : DataItem) (n : ℕ) : Type 0 where
  pub above : low < n
  pub among : Among n keys
  pub is : key ≡ UnsignedInteger n

abbrev pub AreKeyed : List ℕ → ℕ → DataPairs → Type 0
AreKeyed keys low NoPairs = Unit {0}
AreKeyed keys low (PairThen key value ps) = (n : ℕ) × IsKeyed keys low key n × AreKeyed keys n ps

-- ---- numbers

pub not_same : (a b : ℕ) → (a ≡ b → ⊥) → (a == b) ≡ false
not_same a b other = by_test (a == b) refl
  where
    by_test : (t : Bool) → (a == b) ≡ t → (a == b) ≡ false
    by_test true e = absurd (other (eqb-true a b e))
    by_test false e = e

pub among_above : (low n : ℕ) (keys : List ℕ) → KeysAscend low keys → Among n keys → low < n
among_above low n [] up among = absurd among
among_above low n (k ∷ ks) up (inl same) = omega (arith, same, up.0)
among_above low n (k ∷ ks) up (inr later) = omega (arith, up.0, among_above k n ks up.1 later)

-- ---- lookups

absent_here : (keys : List ℕ) (low n : ℕ) (ps : DataPairs) → AreKeyed keys low ps → n ≤ low → value_in n ps ≡ None
absent_here keys low n NoPairs keyed le = refl
absent_here keys low n (PairThen key value ps) keyed le =
    let m = keyed.0 in
    let above = keyed.1.above in
    let other : is_number n key ≡ false = subst (λ (k : DataItem). is_number n k ≡ false) (sym keyed.1.is) (not_same m n (λ e. absurd (omega (arith, e)))) in
    rw other (absent_here keys m n ps keyed.2 (omega arith))

rows_later : (key : ℕ) (value : DataItem) (ps : DataPairs) (keys : List ℕ) → KeysAscend key keys → rows_in keys (PairThen (UnsignedInteger key) value ps) ≡ rows_in keys ps
rows_later key value ps [] up = refl
rows_later key value ps (k ∷ ks) up =
    let low = up.0 in
    let other : (key == k) ≡ false = not_same key k (λ e. absurd (omega (arith, e))) in
    rw other (ap (λ (rows : List Row). (k, value_in k ps) ∷ rows) (rows_later key value ps ks (lower key k ks low up.1)))
  where
    lower : (a b : ℕ) (ks : List ℕ) → a < b → KeysAscend b ks → KeysAscend a ks
    lower a b [] lt up = tt
    lower a b (k ∷ ks) lt up = (omega (arith, lt, up.0), up.1)

nothing_in : (keys : List ℕ) → row_pairs (rows_in keys NoPairs) ≡ NoPairs
nothing_in [] = refl
nothing_in (k ∷ ks) = nothing_in ks

-- a number below all keys is none of them
narrowed : (k : ℕ) (ks : List ℕ) (low : ℕ) (ps : DataPairs) → k ≤ low → AreKeyed (k ∷ ks) low ps → AreKeyed ks low ps
narrowed k ks low NoPairs le keyed = tt
narrowed k ks low (PairThen key value ps) le keyed =
    let above = keyed.1.above in
    (keyed.0, record { above = above; among = other keyed.0 above keyed.1.among; is = keyed.1.is }, narrowed k ks keyed.0 ps (omega arith) keyed.2)
  where
    other : (n : ℕ) → low < n → Among n (k ∷ ks) → Among n ks
    other n lt (inl same) = absurd (omega (arith, same))
    other n lt (inr later) = later

pub pairs_are : (keys : List ℕ) (low : ℕ) (ps : DataPairs) → KeysAscend low keys → AreKeyed keys low ps → ps ≡ row_pairs (rows_in keys ps)
pairs_are [] low NoPairs up keyed = refl
pairs_are [] low (PairThen key value ps) up keyed = absurd keyed.1.among
pairs_are (k ∷ ks) low NoPairs up keyed = sym (nothing_in ks)
pairs_are (k ∷ ks) low (PairThen key value ps) up keyed = by_key (λ qs all. pairs_are ks k qs up.1 all) keyed.0 keyed.1 keyed.2 keyed.1.among
  where
    by_key : ((qs : DataPairs) → AreKeyed ks k qs → qs ≡ row_pairs (rows_in ks qs)) → (n : ℕ) → IsKeyed (k ∷ ks) low key n → AreKeyed (k ∷ ks) n ps → Among n (k ∷ ks) → PairThen key value ps ≡ row_pairs (rows_in (k ∷ ks) (PairThen key value ps))
    by_key others n one rest (inl same) =
        let here : key ≡ UnsignedInteger k = one.is ∙ ap UnsignedInteger same in
        let again : ps ≡ row_pairs (rows_in ks ps) = others ps (subst (λ (m : ℕ). AreKeyed ks m ps) same (narrowed k ks n ps (omega (arith, same)) rest)) in
        let found : (k == k) ≡ true = eq-eqb k k refl in
        let rows : PairThen (UnsignedInteger k) value ps ≡ row_pairs (rows_in (k ∷ ks) (PairThen (UnsignedInteger k) value ps)) =
        rw (found, rows_later k value ps ks up.1) (ap (PairThen (UnsignedInteger k) value) again) in
        subst (λ (x : DataItem). PairThen x value ps ≡ row_pairs (rows_in (k ∷ ks) (PairThen x value ps))) (sym here) rows
    by_key others n one rest (inr later) =
        let lt : k < n = among_above k n ks up.1 later in
        let all : AreKeyed (k ∷ ks) k (PairThen key value ps) = (n, record { above = lt; among = inr later; is = one.is }, rest) in
        let absent : value_in k (PairThen key value ps) ≡ None = absent_here (k ∷ ks) k k (PairThen key value ps) all (omega arith) in
        let again : PairThen key value ps ≡ row_pairs (rows_in ks (PairThen key value ps)) = others (PairThen key value ps) (narrowed k ks k (PairThen key value ps) (omega arith) all) in
        again ∙ ap (λ (o : Option DataItem). pair_then k o (row_pairs (rows_in ks (PairThen key value ps)))) (sym absent)

-- ---- entries

keyed_above : (keys : List ℕ) (low place : ℕ) (ps : DataPairs) → AllByRecursion (IsKeyAmong keys) (entries place ps) → NumbersAscend (entries place ps) → AllByRecursion (IsAboveNumber low) (entries place ps) → AreKeyed keys low ps
keyed_above keys low place NoPairs known ascend above = tt
keyed_above keys low place (PairThen key value ps) known ascend above =
    let n = known.0.0 in
    (n, record { above = above.0 n known.0.2; among = known.0.1; is = known.0.2 }, keyed_above keys n (place + length (spell key) + length (spell value)) ps known.1 ascend.1 (ascend.0 n known.0.2))

pub keyed : (keys : List ℕ) (low place : ℕ) (ps : DataPairs) → KeysAscend low keys → AllByRecursion (IsKeyAmong keys) (entries place ps) → NumbersAscend (entries place ps) → AreKeyed keys low ps
keyed keys low place NoPairs up known ascend = tt
keyed keys low place (PairThen key value ps) up known ascend =
    let n = known.0.0 in
    (n, record { above = among_above low n keys up known.0.1; among = known.0.1; is = known.0.2 }, keyed_above keys n (place + length (spell key) + length (spell value)) ps known.1 ascend.1 (ascend.0 n known.0.2))

pub value_is : (n place : ℕ) (ps : DataPairs) → value_in n ps ≡ option_map (λ (e : Entry). e.value) (entry_under n (entries place ps))
value_is n place NoPairs = refl
value_is n place (PairThen key value ps) = by_test (value_is n (place + length (spell key) + length (spell value)) ps) (is_number n key)
  where
    by_test : value_in n ps ≡ option_map (λ (e : Entry). e.value) (entry_under n (entries (place + length (spell key) + length (spell value)) ps)) → (t : Bool)
        → (if t then Some value else value_in n ps)
        ≡ option_map (λ (e : Entry). e.value) (if t then Some (record { key = key; key_place = place; value = value; value_place = place + length (spell key) }) else entry_under n (entries (place + length (spell key) + length (spell value)) ps))
    by_test later true = refl
    by_test later false = later
