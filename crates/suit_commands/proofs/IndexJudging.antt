-- Judging a selection of components agrees with the grammar and the refusals.
use Rattle.std.proofs.Common.{◌≡◌, ◌≢◌, ℕ, ◌<◌, ◌≤◌, Bool, true, false, eqb, ltb, List, [], ◌∷◌, Result, Ok, Err, refl, sym, ap, subst, ◌∙◌, inl, inr, arith}
use Rattle.std.specs.List.{AllByRecursion}
use Rattle.std.proofs.lemmas.Bool.{eqb-true, eqb-false, ne_eqb, lt-ltb, le-ltb, ltb-true, ltb-false}
use Rattle.det_cbor.specs.DataItem.{DataItem, UnsignedInteger, ArrayOf, Boolean, DataItems, NoItems, ItemThen, item_count}
use Rattle.det_cbor.specs.HeadReading.{◌>>=◌}
use Rattle.det_cbor.specs.ResultLaws.{chosen, bind_ok, bind_err, same_ok, same_err}
use Rattle.suit_params.specs.declared.refusal.Refusal.{Refusal}
use Rattle.suit_params.specs.declared.refusal.Why.TheVariants.{BadArgument, BadIndex}
use Rattle.suit_params.specs.Refusing.{refused}
use Rattle.suit_params.specs.ParamJudging.{judge_index}
use Rattle.suit_commands.specs.declared.selection.Selection.{Selection}
use Rattle.suit_commands.specs.declared.selection.Selection.TheVariants.{One, All, Listed}
use Rattle.suit_commands.specs.Sequences.{elements_place, place_after, index_items, SaysCommand, SaysOne, SaysAll, SaysListed}
use Rattle.suit_commands.specs.SequenceFaults.{IsUnsigned, IsSelection, RefusesIndices, NoIndex, IndexAbove, LaterIndex, RefusesArgument, NoSelection, NoComponent, BadIndices}
use Rattle.suit_commands.specs.SequenceJudging.{judge_element, judge_indices, judge_selection}
use Rattle.suit_commands.specs.Tree.{Index}

-- ---- numbers of elements

pub no_items : (items : DataItems) → item_count items ≡ 0 → items ≡ NoItems
no_items NoItems none = refl
no_items (ItemThen x others) none = absurd (omega arith)

pub some_items : (items : DataItems) → eqb (item_count items) 0 ≡ false → items ≢ NoItems
some_items items some none = eqb-false (item_count items) 0 some (ap item_count none)

pub not_none : (items : DataItems) → items ≢ NoItems → eqb (item_count items) 0 ≡ false
not_none items some = ne_eqb (item_count items) 0 (λ none. some (no_items items none))

-- ---- indices

index_ok : (count place i j : ℕ) → judge_index count place i ≡ Ok j → (i ≡ j) × (i < count)
index_ok count place i j e =
    elim (chosen {A = Result ℕ Refusal} (ltb i count) (Ok i) (Err (refused place (BadIndex i count))) (Ok j) e) [
      | inl (is, f) ↦ (same_ok i j f, ltb-true i count is)
      | inr (other, f) ↦ absurd cc
    ]

index_again : (count place i : ℕ) → i < count → judge_index count place i ≡ Ok i
index_again count place i lt = rw (lt-ltb i count lt) refl

index_err : (count place i : ℕ) (r : Refusal) → judge_index count place i ≡ Err r → (count ≤ i) × (refused place (BadIndex i count) ≡ r)
index_err count place i r e =
    elim (chosen {A = Result ℕ Refusal} (ltb i count) (Ok i) (Err (refused place (BadIndex i count))) (Err r) e) [
      | inl (is, f) ↦ absurd cc
      | inr (other, f) ↦ (omega (arith, ltb-false i count other), same_err _ r f)
    ]

index_refused : (count place i : ℕ) → count ≤ i → judge_index count place i ≡ Err (refused place (BadIndex i count))
index_refused count place i le = rw (le-ltb i count le) refl

-- ---- elements of a list

element_ok : (count list place : ℕ) (x : DataItem) (i : ℕ) → judge_element count list place x ≡ Ok i → (x ≡ UnsignedInteger i) × (i < count)
element_ok count list place (UnsignedInteger j) i e = let s = index_ok count place j i e in (ap UnsignedInteger s.0, subst (λ (k : ℕ). k < count) s.0 s.1)
element_ok count list place _ i e = absurd cc

element_other : (count list place : ℕ) (x : DataItem) → (IsUnsigned x → ⊥) → judge_element count list place x ≡ Err (refused list BadArgument)
element_other count list place (UnsignedInteger i) other = absurd (other tt)
element_other count list place _ other = refl

element_err : (count list place : ℕ) (x : DataItem) (others : DataItems) (r : Refusal) → judge_element count list place x ≡ Err r → RefusesIndices count list place (ItemThen x others) r
element_err count list place (UnsignedInteger i) others r e = let s = index_err count place i r e in subst (RefusesIndices count list place (ItemThen (UnsignedInteger i) others)) s.1 (IndexAbove place i others s.0)
element_err count list place x others r e = subst (RefusesIndices count list place (ItemThen x others)) (same_err _ r e) (NoIndex place x others (λ h. h))

pub indices_ok : (count list place : ℕ) (items : DataItems) (is : List ℕ) → judge_indices count list place items ≡ Ok is → (items ≡ index_items is) × AllByRecursion (λ i. i < count) is
indices_ok count list place NoItems is e = subst (λ (l : List ℕ). (NoItems ≡ index_items l) × AllByRecursion (λ i. i < count) l) (same_ok [] is e) (refl, tt)
indices_ok count list place (ItemThen x others) is e =
    bind_ok (judge_element count list place x) _ is e (λ i i-is f. bind_ok (judge_indices count list (place_after place x) others) _ is f (λ js js-is g.
    let first = element_ok count list place x i i-is in
    let rest = indices_ok count list (place_after place x) others js js-is in
    let items_are : ItemThen x others ≡ index_items (i ∷ js) = ap (λ (y : DataItem). ItemThen y others) first.0 ∙ ap (ItemThen (UnsignedInteger i)) rest.0 in
    subst (λ (l : List ℕ). (ItemThen x others ≡ index_items l) × AllByRecursion (λ k. k < count) l) (same_ok (i ∷ js) is g) (items_are, (first.1, rest.1))))

pub indices_again : (count list place : ℕ) (is : List ℕ) → AllByRecursion (λ i. i < count) is → judge_indices count list place (index_items is) ≡ Ok is
indices_again count list place [] all = refl
indices_again count list place (i ∷ is) all = rw (index_again count place i all.0, indices_again count list (place_after place (UnsignedInteger i)) is all.1) refl

pub indices_err : (count list place : ℕ) (items : DataItems) (r : Refusal) → judge_indices count list place items ≡ Err r → RefusesIndices count list place items r
indices_err count list place NoItems r e = absurd cc
indices_err count list place (ItemThen x others) r e =
    bind_err (judge_element count list place x) _ r e
    (λ f. element_err count list place x others r f)
    (λ i i-is f. bind_err (judge_indices count list (place_after place x) others) _ r f
    (λ g. later (element_ok count list place x i i-is) (indices_err count list (place_after place x) others r g))
    (λ js js-is g. absurd cc))
  where
    later : {i : ℕ} → (x ≡ UnsignedInteger i) × (i < count) → RefusesIndices count list (place_after place x) others r → RefusesIndices count list place (ItemThen x others) r
    later {i} s bad =
        subst (λ (y : DataItem). RefusesIndices count list (place_after place y) others r → RefusesIndices count list place (ItemThen y others) r) (sym s.0) (λ b. LaterIndex place i others r s.1 b) bad

pub indices_refused : (count list place : ℕ) (items : DataItems) (r : Refusal) → RefusesIndices count list place items r → judge_indices count list place items ≡ Err r
indices_refused count list place items r (NoIndex at x others other) = rw (element_other count list place x other) refl
indices_refused count list place items r (IndexAbove at i others above) = rw (index_refused count place i above) refl
indices_refused count list place items r (LaterIndex at i others s lt later) = rw (index_again count place i lt, indices_refused count list (place_after place (UnsignedInteger i)) others s later) refl

-- ---- selections

abbrev SaysIndex : Bool → ℕ → ℕ → ℕ → DataItem → Selection → Type 0
SaysIndex shared count levels place x selection = SaysCommand shared count levels place 12 x (Index selection)

flag_ok : (shared : Bool) (count levels place : ℕ) (b : Bool) (selection : Selection) → judge_selection count place (Boolean b) ≡ Ok selection → SaysIndex shared count levels place (Boolean b) selection
flag_ok shared count levels place true selection e = subst (SaysIndex shared count levels place (Boolean true)) (same_ok All selection e) (SaysAll levels place)
flag_ok shared count levels place false selection e = absurd cc

listed_ok : (shared : Bool) (count levels place : ℕ) (items : DataItems) (is : List ℕ) → items ≢ NoItems → judge_indices count place (elements_place place items) items ≡ Ok is → SaysIndex shared count levels place (ArrayOf items) (Listed is)
listed_ok shared count levels place items is some e =
    let s = indices_ok count place (elements_place place items) items is e in
    let some_indices : is ≢ [] = λ none. some (s.0 ∙ ap index_items none) in
    subst (λ (xs : DataItems). SaysIndex shared count levels place (ArrayOf xs) (Listed is)) (sym s.0) (SaysListed levels place is some_indices s.1)

pub selection_ok : (shared : Bool) (count levels place : ℕ) (x : DataItem) (selection : Selection) → judge_selection count place x ≡ Ok selection → SaysCommand shared count levels place 12 x (Index selection)
selection_ok shared count levels place (UnsignedInteger i) selection e =
    bind_ok (judge_index count place i) _ selection e (λ j j-is f.
    let s = index_ok count place i j j-is in
    subst (SaysIndex shared count levels place (UnsignedInteger i)) (ap One s.0 ∙ same_ok (One j) selection f) (SaysOne levels place i s.1))
selection_ok shared count levels place (Boolean b) selection e = flag_ok shared count levels place b selection e
selection_ok shared count levels place (ArrayOf items) selection e =
    elim (chosen {A = Result Selection Refusal} (eqb (item_count items) 0) (Err (refused place BadArgument)) (judge_indices count place (elements_place place items) items >>= λ is. Ok (Listed is)) (Ok selection) e) [
      | inl (none, f) ↦ absurd cc
      | inr (some, f) ↦ bind_ok (judge_indices count place (elements_place place items) items) _ selection f (λ is is-is g.
          subst (SaysIndex shared count levels place (ArrayOf items)) (same_ok (Listed is) selection g) (listed_ok shared count levels place items is (some_items items some) is-is))
    ]
selection_ok shared count levels place _ selection e = absurd cc

pub one_again : (count place i : ℕ) → i < count → judge_selection count place (UnsignedInteger i) ≡ Ok (One i)
one_again count place i lt = rw (index_again count place i lt) refl

pub listed_again : (count place : ℕ) (is : List ℕ) → is ≢ [] → AllByRecursion (λ i. i < count) is → judge_selection count place (ArrayOf (index_items is)) ≡ Ok (Listed is)
listed_again count place is some all =
    let more : eqb (item_count (index_items is)) 0 ≡ false = not_none (index_items is) (λ none. some (no_indices is none)) in
    rw (more, indices_again count place (elements_place place (index_items is)) is all) refl
  where
    no_indices : (is : List ℕ) → index_items is ≡ NoItems → is ≡ []
    no_indices [] none = refl
    no_indices (i ∷ is) none = absurd cc

abbrev RefusesIndex : Bool → ℕ → ℕ → ℕ → DataItem → Refusal → Type 0
RefusesIndex shared count levels place x r = RefusesArgument shared count levels place 12 x r

bad_flag : (shared : Bool) (count levels place : ℕ) (b : Bool) (r : Refusal) → judge_selection count place (Boolean b) ≡ Err r → RefusesIndex shared count levels place (Boolean b) r
bad_flag shared count levels place true r e = absurd cc
bad_flag shared count levels place false r e = subst (RefusesIndex shared count levels place (Boolean false)) (same_err _ r e) (NoSelection levels place (Boolean false) (λ (h : false ≡ true). absurd cc))

pub selection_err : (shared : Bool) (count levels place : ℕ) (x : DataItem) (r : Refusal) → judge_selection count place x ≡ Err r → RefusesArgument shared count levels place 12 x r
selection_err shared count levels place (UnsignedInteger i) r e =
    bind_err (judge_index count place i) _ r e
    (λ f. let s = index_err count place i r f in subst (RefusesIndex shared count levels place (UnsignedInteger i)) s.1 (NoComponent levels place i s.0))
    (λ j j-is f. absurd cc)
selection_err shared count levels place (Boolean b) r e = bad_flag shared count levels place b r e
selection_err shared count levels place (ArrayOf items) r e =
    elim (chosen {A = Result Selection Refusal} (eqb (item_count items) 0) (Err (refused place BadArgument)) (judge_indices count place (elements_place place items) items >>= λ is. Ok (Listed is)) (Err r) e) [
      | inl (none, f) ↦
          let empty = no_items items (eqb-true (item_count items) 0 none) in
          subst (RefusesIndex shared count levels place (ArrayOf items)) (same_err _ r f) (NoSelection levels place (ArrayOf items) (λ (some : items ≢ NoItems). some empty))
      | inr (some, f) ↦ bind_err (judge_indices count place (elements_place place items) items) _ r f
          (λ g. BadIndices levels place items r (indices_err count place (elements_place place items) items r g))
          (λ is is-is g. absurd cc)
    ]
selection_err shared count levels place x r e = subst (RefusesIndex shared count levels place x) (same_err _ r e) (NoSelection levels place x (λ h. h))

pub selection_other : (count place : ℕ) (x : DataItem) → (IsSelection x → ⊥) → judge_selection count place x ≡ Err (refused place BadArgument)
selection_other count place (UnsignedInteger i) other = absurd (other tt)
selection_other count place (Boolean true) other = absurd (other refl)
selection_other count place (Boolean false) other = refl
selection_other count place (ArrayOf NoItems) other = refl
selection_other count place (ArrayOf (ItemThen x others)) other = absurd (other (λ none. absurd cc))
selection_other count place _ other = refl

pub component_refused : (count place i : ℕ) → count ≤ i → judge_selection count place (UnsignedInteger i) ≡ Err (refused place (BadIndex i count))
component_refused count place i above = rw (index_refused count place i above) refl

pub listed_refused : (count place : ℕ) (items : DataItems) (r : Refusal) → RefusesIndices count place (elements_place place items) items r → judge_selection count place (ArrayOf items) ≡ Err r
listed_refused count place NoItems r bad = absurd (nothing_bad bad)
  where
    nothing_bad : {at : ℕ} → RefusesIndices count place at NoItems r → ⊥
    nothing_bad bad = elim bad [ ]
listed_refused count place (ItemThen x others) r bad =
    let more : eqb (item_count (ItemThen x others)) 0 ≡ false = not_none (ItemThen x others) (λ none. absurd cc) in
    rw (more, indices_refused count place (elements_place place (ItemThen x others)) (ItemThen x others) r bad) refl
