-- Finding components one by one.
use Rattle.std.proofs.Common.{◌≡◌, ◌≢◌, ℕ, zero, suc, ◌+◌, ◌<◌, ◌≤◌, List, [], ◌∷◌, length, get_or, set, None, refl, sym, ap, subst, ◌∙◌, below_more, get_or-set_other, get_or-set_same, arith}
use Rattle.flash_layout.specs.declared.layout.Entry.{Entry}
use Rattle.flash_layout.specs.declared.layout.Memory.TheVariants.{Ram}
use Rattle.flash_layout.specs.declared.place.Places.{Places}
use Rattle.flash_layout.specs.Placement.{HasPlace, IsUnknown, ArePlaces, HaveOtherPlaces, IsFirstUnknown}

pub other_default : {A : Type 0} (xs : List A) (i : ℕ) (d e : A) → i < length xs → get_or xs i d ≡ get_or xs i e
other_default [] i d e lt = absurd (omega (arith, lt))
other_default (x ∷ xs) zero d e lt = refl
other_default (x ∷ xs) (suc i) d e lt = other_default xs i d e (omega (arith, lt))

id_there : (ids : List (List (List ℕ))) (k : ℕ) (x e d : List (List ℕ)) → k < length ids → x ≡ get_or ids k e → get_or ids k d ≡ x
id_there ids k x e d lt is = other_default ids k d e lt ∙ sym is

pub first_unknown : (entries layout : List Entry) (ids all : List (List (List ℕ))) (indices : List ℕ) (k : ℕ) (x e : List (List ℕ)) → entries ≡ layout → ids ≡ all → k < length ids → x ≡ get_or ids k e → IsUnknown entries x
    → ((j : ℕ) → j < k → (d : List (List ℕ)) → HasPlace entries (get_or ids j d) (get_or indices j 0)) → IsFirstUnknown layout all k
first_unknown entries layout ids all indices k x e same_entries same_ids lt is unknown before =
    subst (λ (l : List Entry). IsFirstUnknown l all k) same_entries
    (subst (λ (m : List (List (List ℕ))). IsFirstUnknown entries m k) same_ids
    (record {
      inside = lt;
      lacks = λ d. subst (IsUnknown entries) (sym (id_there ids k x e d lt is)) unknown;
      before = λ j d below. (get_or indices j 0, before j below d);
    }))

pub all_placed : (entries layout : List Entry) (ids all : List (List (List ℕ))) (indices : List ℕ) (k : ℕ) → entries ≡ layout → ids ≡ all → length ids ≤ k → k ≤ length ids
    → ((j : ℕ) → j < k → (d : List (List ℕ)) → HasPlace entries (get_or ids j d) (get_or indices j 0)) → ((j : ℕ) → k ≤ j → get_or indices j 0 ≡ 0)
    → ArePlaces layout all (record { count = length ids; layout_index = indices })
all_placed entries layout ids all indices k same_entries same_ids low high each rest =
    subst (λ (l : List Entry). ArePlaces l all (record { count = length ids; layout_index = indices })) same_entries
    (subst (λ (m : List (List (List ℕ))). ArePlaces entries m (record { count = length ids; layout_index = indices })) same_ids
    (record { count = refl; each = λ j d lt. each j (omega (arith, lt, low)) d; rest = λ j le. rest j (omega (arith, le, high)) }))

pub one_placed : (entries : List Entry) (ids : List (List (List ℕ))) (indices : List ℕ) (k i : ℕ) (x e : List (List ℕ)) → k < length ids → k < length indices → x ≡ get_or ids k e → HasPlace entries x i
    → ((j : ℕ) → j < k → (d : List (List ℕ)) → HasPlace entries (get_or ids j d) (get_or indices j 0))
    → (j : ℕ) → j < k + 1 → (d : List (List ℕ)) → HasPlace entries (get_or ids j d) (get_or (set indices k i) j 0)
one_placed entries ids indices k i x e lt room is placed each =
    below_more (λ (j : ℕ). (d : List (List ℕ)) → HasPlace entries (get_or ids j d) (get_or (set indices k i) j 0)) k
    (λ j below d. let ne : j ≢ k = omega (arith, below) in rw get_or-set_other (each j below d))
    (λ d. rw (get_or-set_same indices k i 0 room, id_there ids k x e d lt is) placed)

pub none_after : (indices : List ℕ) (k i : ℕ) → ((j : ℕ) → k ≤ j → get_or indices j 0 ≡ 0) → (j : ℕ) → k + 1 ≤ j → get_or (set indices k i) j 0 ≡ 0
none_after indices k i rest j le = let ne : j ≢ k = omega (arith, le) in rw get_or-set_other (rest j (omega (arith, le)))

-- a place has only one identifier
pub other_places : (layout : List Entry) (ids : List (List (List ℕ))) (p : Places) → ArePlaces layout ids p → HaveOtherPlaces ids p
other_places layout ids p are j k d below lt other same =
    let one = are.each j d (omega (arith, below, lt)) in
    let two = are.each k d lt in
    other (sym (one.1 entry) ∙ ap (λ (i : ℕ). (get_or layout i entry).identifier) same ∙ two.1 entry)
  where
    entry : Entry
    entry = record { identifier = []; memory = Ram; slots = 0; starts = []; capacity = 0; vendor = None; class = None; device = None }
