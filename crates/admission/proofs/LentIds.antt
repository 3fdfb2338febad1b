-- Identifiers that are lent one by one, and their places.
use Rattle.std.proofs.Common.{◌≡◌, ◌≢◌, ℕ, zero, suc, ◌+◌, ◌<◌, ◌≤◌, List, [], ◌∷◌, ◌++◌, append_assoc, length, take, drop, get_or, set, Option, Some, None, Bool, true, false, not, refl, sym, ap, subst, ◌∙◌, below_more, get_or-set_other, get_or-set_same, arith}
use Rattle.std.proofs.lemmas.List.{drop_at, drop_more, length-take, take_more}
use Rattle.flash_layout.specs.declared.layout.Entry.{Entry}
use Rattle.flash_layout.specs.declared.layout.Memory.TheVariants.{Ram}
use Rattle.flash_layout.specs.declared.place.Places.{Places}
use Rattle.flash_layout.specs.Placement.{ArePlaces, HasPlace, HaveOtherPlaces}
use Rattle.manifest_view.specs.Lending.{LendsIdentifier}

-- ---- an identifier whose beginning was seen

-- one more of it
pub one_more : (xs : List (List ℕ)) (i : ℕ) (x d : List ℕ) (rest : List (List ℕ)) → i < length xs → get_or xs i d ≡ x → take i xs ++ (x ∷ rest) ≡ take (i + 1) xs ++ rest
one_more xs i x d rest lt is =
    sym (ap (λ (l : List (List ℕ)). l ++ rest) (take_more xs i d lt) ∙ append_assoc (take i xs) (get_or xs i d ∷ []) rest ∙ ap (λ (z : List ℕ). take i xs ++ (z ∷ rest)) is)

-- what stands behind it
pub behind : (xs : List (List ℕ)) (i : ℕ) (x d : List ℕ) (rest : List (List ℕ)) → i < length xs → xs ≡ take i xs ++ (x ∷ rest) → get_or xs i d ≡ x
behind xs i x d rest lt is =
    let long : length (take i xs) ≡ i = omega (arith, length-take i xs, lt) in
    let there : drop i xs ≡ x ∷ rest = ap (drop i) is ∙ drop_at (take i xs) (x ∷ rest) i long in
    ap (λ (l : List (List ℕ)). get_or l 0 d) (sym (drop_more xs i d lt) ∙ there)

pub was_true : (b : Bool) → false ≡ not b → b ≡ true
was_true true e = cc
was_true false e = cc

pub was_false : (b : Bool) → true ≡ not b → b ≡ true → ⊥
was_false true e is = cc
was_false false e is = cc

-- ---- identifiers whose rest is left

pub left_first : (xs left : List (List (List ℕ))) (k : ℕ) (d : List (List ℕ)) → k < length xs → left ≡ drop k xs → get_or left 0 d ≡ get_or xs k d
left_first xs left k d lt is = ap (λ (l : List (List (List ℕ))). get_or l 0 d) (is ∙ drop_more xs k d lt)

pub next_left : (xs : List (List (List ℕ))) (k : ℕ) (before after : List (List (List ℕ))) (r : Option (List (List ℕ))) → k < length xs → before ≡ drop k xs → LendsIdentifier before after r → after ≡ drop (k + 1) xs
next_left xs k before after None lt is lends = let never : [] ≡ get_or xs k [] ∷ drop (k + 1) xs = sym lends.0 ∙ is ∙ drop_more xs k [] lt in absurd cc
next_left xs k before after (Some x) lt is lends = ap (λ (l : List (List (List ℕ))). drop 1 l) (sym lends ∙ is ∙ drop_more xs k [] lt)

pub first_lent : (ids before after : List (List (List ℕ))) (r : Option (List (List ℕ))) (x : List (List ℕ)) → before ≡ ids → LendsIdentifier before after r → r ≡ Some x → get_or ids 0 [] ≡ x
first_lent ids before after r x same lends is =
    let next : before ≡ x ∷ after = subst (LendsIdentifier before after) is lends in
    ap (λ (l : List (List (List ℕ))). get_or l 0 []) (sym same ∙ next)

-- ---- their places, one by one

pub other_default : (ids : List (List (List ℕ))) (k : ℕ) (e d : List (List ℕ)) → k < length ids → get_or ids k e ≡ get_or ids k d
other_default [] k e d lt = absurd (omega (arith, lt))
other_default (x ∷ xs) zero e d lt = refl
other_default (x ∷ xs) (suc k) e d lt = other_default xs k e d (omega (arith, lt))

-- those before have theirs
abbrev pub ArePlaced : List Entry → List (List (List ℕ)) → List ℕ → ℕ → Type 0
ArePlaced layout ids indices k = (j : ℕ) → j < k → (d : List (List ℕ)) → HasPlace layout (get_or ids j d) (get_or indices j 0)

pub one_placed : (layout : List Entry) (ids : List (List (List ℕ))) (indices : List ℕ) (k i : ℕ) → k < length indices → ((d : List (List ℕ)) → HasPlace layout (get_or ids k d) i)
    → ArePlaced layout ids indices k → ArePlaced layout ids (set indices k i) (k + 1)
one_placed layout ids indices k i room placed each =
    below_more (λ (j : ℕ). (d : List (List ℕ)) → HasPlace layout (get_or ids j d) (get_or (set indices k i) j 0)) k
    (λ j below d. let ne : j ≢ k = omega (arith, below) in rw get_or-set_other (each j below d))
    (λ d. rw (get_or-set_same indices k i 0 room) (placed d))

pub none_after : (indices : List ℕ) (k i : ℕ) → ((j : ℕ) → k ≤ j → get_or indices j 0 ≡ 0) → (j : ℕ) → k + 1 ≤ j → get_or (set indices k i) j 0 ≡ 0
none_after indices k i rest j le = let ne : j ≢ k = omega (arith, le) in rw get_or-set_other (rest j (omega (arith, le)))

-- at one place stands one identifier
pub other_places : (layout : List Entry) (ids : List (List (List ℕ))) (p : Places) → ArePlaces layout ids p → HaveOtherPlaces ids p
other_places layout ids p are j k d below lt other same =
    let one = are.each j d (omega (arith, below, lt)) in
    let two = are.each k d lt in
    other (sym (one.1 entry) ∙ ap (λ (i : ℕ). (get_or layout i entry).identifier) same ∙ two.1 entry)
  where
    entry : Entry
    entry = record { identifier = []; memory = Ram; slots = 0; starts = []; capacity = 0; vendor = None; class = None; device = None }
