-- Rows of parameters, one after another, and an override of one of them.
use Rattle.std.proofs.Common.{◌≡◌, ◌<◌, ℕ, zero, suc, ◌+◌, ◌-◌, ◌*◌, List, [], ◌∷◌, ◌++◌, length, get_or, take, map, Option, Some, None, Result, Ok, Err, OnOk, OnErr, refl, sym, ap, ◌∙◌, subst, arith, length-set, get_or-set_same}
use Rattle.std.specs.Prelude.{slice_get, slice_set, replicate}
use Rattle.std.specs.Option.{option_copied}
use Rattle.std.specs.Borrow.{Bor}
use Rattle.std.proofs.lemmas.List.{set-append_left, set-append_right, set-get_or, set-set, length-map, get_or-map, get_or_default}
use Rattle.suit_params.specs.declared.param.Param.{Param}
use Rattle.suit_params.specs.declared.param.ParamKey.{ParamKey}
use Rattle.suit_params.specs.ParamKeys.{key_of}
use Rattle.suit_params.specs.InForce.{Parameters, rank, held_at, in_force, none_in_force, overridden, IsOverridden}
use Rattle.suit_params.proofs.Overriding.{rank_small, is_overridden}
use Rattle.path_model.specs.ParameterLaws.{StaysWhole, StartsEmpty}
use Rattle.path_checker.specs.Rows.{Row, together, AreWide, overridden_row, AreKeyed}
use Rattle.path_checker.proofs.KeyedLaws.{keyed_overridden}
use Rattle.path_checker.proofs.Merging.{take_next}

-- ---- two lists, one after the other

get_left : {A : Type 0} (xs ys : List A) (i : ℕ) → i < length xs → slice_get (xs ++ ys) i ≡ slice_get xs i
get_left [] ys i lt = absurd (omega (arith, lt))
get_left (x ∷ xs) ys zero lt = refl
get_left (x ∷ xs) ys (suc i) lt = get_left xs ys i (omega (arith, lt))

get_right : {A : Type 0} (xs ys : List A) (i : ℕ) → slice_get (xs ++ ys) (length xs + i) ≡ slice_get ys i
get_right [] ys i =
    let e : 0 + i ≡ i = omega arith in
    ap (slice_get ys) e
get_right (x ∷ xs) ys i =
    let e : suc (length xs) + i ≡ suc (length xs + i) = omega arith in
    ap (slice_get (x ∷ xs ++ ys)) e ∙ get_right xs ys i

-- ---- the cells of rows

at_cell : {A : Type 0} (rows : List (List A)) (c r : ℕ) → AreWide rows → c < length rows → r < 12 → slice_get (together rows) (12 * c + r) ≡ slice_get (get_or rows c []) r
at_cell [] c r wide lt small = absurd (omega (arith, lt))
at_cell (row ∷ rows) zero r wide lt small =
    let e : 12 * zero + r ≡ r = omega arith in
    ap (slice_get (row ++ together rows)) e ∙ get_left row (together rows) r (omega (arith, small, wide.0))
at_cell (row ∷ rows) (suc c) r wide lt small =
    let e : 12 * suc c + r ≡ length row + (12 * c + r) = omega (arith, wide.0) in
    ap (slice_get (row ++ together rows)) e ∙ get_right row (together rows) (12 * c + r) ∙ at_cell rows c r wide.1 (omega (arith, lt)) small

together_set : {A : Type 0} (rows : List (List A)) (c r : ℕ) (a : A) → AreWide rows → c < length rows → r < 12
    → slice_set (together rows) (12 * c + r) a ≡ together (slice_set rows c (slice_set (get_or rows c []) r a))
together_set {A} [] c r a wide lt small = absurd (omega (arith, lt))
together_set {A} (row ∷ rows) zero r a wide lt small =
    let e : 12 * zero + r ≡ r = omega arith in
    ap (λ (k : ℕ). slice_set (row ++ together rows) k a) e ∙ set-append_left row (together rows) r a (omega (arith, small, wide.0))
together_set {A} (row ∷ rows) (suc c) r a wide lt small =
    let e : 12 * suc c + r - 12 ≡ 12 * c + r = omega arith in
    set-append_right row (together rows) 12 (12 * suc c + r) a wide.0 (omega arith)
    ∙ ap (λ (cells : List A). row ++ cells) (ap (λ (k : ℕ). slice_set (together rows) k a) e ∙ together_set rows c r a wide.1 (omega (arith, lt)) small)

wide_set : {A : Type 0} (rows : List (List A)) (c : ℕ) (row : List A) → AreWide rows → length row ≡ 12 → AreWide (slice_set rows c row)
wide_set [] c row wide is = wide
wide_set (x ∷ rows) zero row wide is = (is, wide.1)
wide_set (x ∷ rows) (suc c) row wide is = (wide.0, wide_set rows c row wide.1 is)

wide_at : {A : Type 0} (rows : List (List A)) (c : ℕ) → AreWide rows → c < length rows → length (get_or rows c []) ≡ 12
wide_at [] c wide lt = absurd (omega (arith, lt))
wide_at (row ∷ rows) zero wide lt = wide.0
wide_at (row ∷ rows) (suc c) wide lt = wide_at rows c wide.1 (omega (arith, lt))

-- ---- an override of a row

length-overridden_row : (row : Row) (list : List Param) → length (overridden_row row list) ≡ length row
length-overridden_row row [] = refl
length-overridden_row row (p ∷ list) = length-overridden_row (slice_set row (rank (key_of p)) (Some p)) list ∙ length-set row (rank (key_of p)) (Some p)

overridden_rows : (rows : List Row) (c : ℕ) (list : List Param) → AreWide rows → c < length rows
    → overridden (together rows) c list ≡ together (slice_set rows c (overridden_row (get_or rows c []) list))
overridden_rows rows c [] wide lt = ap (λ (rs : List Row). together rs) (sym (set-get_or rows c []))
overridden_rows rows c (p ∷ list) wide lt =
    let row : Row = slice_set (get_or rows c []) (rank (key_of p)) (Some p) in
    let next : List Row = slice_set rows c row in
    ap (λ (ps : Parameters). overridden ps c list) (together_set rows c (rank (key_of p)) (Some p) wide lt (rank_small (key_of p)))
    ∙ overridden_rows next c list (wide_set rows c row wide (length-set (get_or rows c []) (rank (key_of p)) (Some p) ∙ wide_at rows c wide lt)) (omega (arith, lt, length-set rows c row))
    ∙ ap (λ (rs : List Row). together rs) (ap (λ (x : Row). slice_set next c (overridden_row x list)) (get_or-set_same rows c row [] lt) ∙ set-set rows c row (overridden_row row list))

-- ---- the rows of eight components

-- what is in force stands in the component's row
in_row : (rows : List Row) (c : ℕ) (key : ParamKey) → AreKeyed rows → c < 8 → in_force (together rows) c key ≡ held_at (slice_get (get_or rows c []) (rank key))
in_row rows c key is low = ap held_at (at_cell rows c (rank key) is.wide (omega (arith, low, is.count)) (rank_small key))

pub in_row_at : (rows : List Row) (c : ℕ) (key : ParamKey) (row : Row) (param : Option Param) → AreKeyed rows → c < 8 → row ≡ get_or rows c row → param ≡ held_at (slice_get row (rank key)) → param ≡ in_force (together rows) c key
in_row_at rows c key row param is low at under =
    under ∙ ap (λ (x : Row). held_at (slice_get x (rank key))) (at ∙ get_or_default rows c row [] (omega (arith, low, is.count))) ∙ sym (in_row rows c key is low)

pub row_exact : (rows after : List Row) (c : ℕ) (list : List Param) → AreKeyed rows → c < 8 → after ≡ slice_set rows c (overridden_row (get_or rows c []) list)
    → together after ≡ overridden (together rows) c list
row_exact rows after c list is low e = ap (λ (rs : List Row). together rs) e ∙ sym (overridden_rows rows c list is.wide (omega (arith, low, is.count)))

row_keyed : StaysWhole → (rows after : List Row) (c : ℕ) (list : List Param) → AreKeyed rows → c < 8 → after ≡ slice_set rows c (overridden_row (get_or rows c []) list) → AreKeyed after
row_keyed stays rows after c list is low e =
    let exact : together after ≡ overridden (together rows) c list = row_exact rows after c list is low e in
    let lt : c < length rows = omega (arith, low, is.count) in
    let row : Row = overridden_row (get_or rows c []) list in
    record {
      count = ap (λ (rs : List Row). length rs) e ∙ length-set rows c row ∙ is.count;
      wide = subst (λ (rs : List Row). AreWide rs) (sym e) (wide_set rows c row is.wide (length-overridden_row (get_or rows c []) list ∙ wide_at rows c is.wide lt));
      keyed = keyed_overridden stays (together rows) (together after) c list is.keyed exact
          (subst (λ (ps : Parameters). IsOverridden (together rows) ps c list) (sym exact) (is_overridden (together rows) c list is.keyed.whole low));
    }

-- the rows are overridden, or are as they were
pub row_keyed_or_left : {A E : Type 0} → StaysWhole → (rows after : List Row) (c : ℕ) (list : List Param) (result : Result A E) → AreKeyed rows → c < 8
    → OnOk result (after ≡ slice_set rows c (overridden_row (get_or rows c []) list)) → OnErr result (after ≡ rows) → AreKeyed after
row_keyed_or_left stays rows after c list (Ok x) is low exact same = row_keyed stays rows after c list is low exact
row_keyed_or_left stays rows after c list (Err e) is low exact same = subst AreKeyed (sym same) is

none_together : together (replicate 8 (replicate 12 None)) ≡ none_in_force
unfolding none_in_force
none_together = refl

-- the first rows
pub first_rows : StaysWhole → StartsEmpty → (rows : List Row) → rows ≡ replicate 8 (replicate 12 None) → AreKeyed rows
first_rows stays empty rows e =
    let flat : together rows ≡ none_in_force = ap (λ (rs : List Row). together rs) e ∙ none_together in
    record {
      count = ap (λ (rs : List Row). length rs) e;
      wide = subst (λ (rs : List Row). AreWide rs) (sym e) (refl, (refl, (refl, (refl, (refl, (refl, (refl, (refl, tt))))))));
      keyed = record {
        keyed = λ component key param low is. absurd (let never = sym (ap (λ (ps : Parameters). in_force ps component key) flat ∙ empty component key) ∙ is in cc);
        whole = ap (λ (ps : Parameters). length ps) flat ∙ stays.first;
      };
    }

pub first_flat : (rows : List Row) → rows ≡ replicate 8 (replicate 12 None) → together rows ≡ none_in_force
first_flat rows e = ap (λ (rs : List Row). together rs) e ∙ none_together

-- ---- cells that are compared one after another

pub cells_next : (xs ys : List (Option (Bor Param))) (i : ℕ) (x y : Option (Bor Param)) → length xs ≡ 12 → length ys ≡ 12 → i < 12 → x ≡ get_or xs i x → y ≡ get_or ys i y
    → option_copied x ≡ option_copied y → take i (map option_copied xs) ≡ take i (map option_copied ys) → take (i + 1) (map option_copied xs) ≡ take (i + 1) (map option_copied ys)
cells_next xs ys i x y full_x full_y lt at_x at_y same so_far =
    let one : length (map option_copied xs) ≡ 12 = length-map xs option_copied ∙ full_x in
    let other : length (map option_copied ys) ≡ 12 = length-map ys option_copied ∙ full_y in
    take_next (map option_copied xs) (map option_copied ys) i (option_copied x) (omega (arith, lt, one)) (other ∙ sym one)
    (get_or-map option_copied xs i x (option_copied x) (omega (arith, lt, full_x)) ∙ sym (ap option_copied at_x) ∙ same ∙ ap option_copied at_y ∙ sym (get_or-map option_copied ys i y (option_copied x) (omega (arith, lt, full_y)))) so_far

-- after `Ok` the rows are overridden
pub row_exact_ok : {A E : Type 0} (rows after : List Row) (ps : Parameters) (c : ℕ) (list : List Param) (result : Result A E) → AreKeyed rows → c < 8 → together rows ≡ ps
    → OnOk result (after ≡ slice_set rows c (overridden_row (get_or rows c []) list)) → OnOk result (together after ≡ overridden ps c list)
row_exact_ok rows after ps c list (Ok x) is low flat e = row_exact rows after c list is low e ∙ ap (λ (from : Parameters). overridden from c list) flat
row_exact_ok rows after ps c list (Err e) is low flat h = h
