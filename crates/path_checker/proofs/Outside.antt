-- Values that are not in a list, and the least number that is not.
use Rattle.std.proofs.Common.{◌≡◌, ◌≢◌, ◌+◌, ◌<◌, ◌≤◌, ℕ, zero, suc, List, [], ◌∷◌, ◌++◌, length, Option, Some, None, sym, ◌∙◌, subst, arith, inl, inr, ⊎_elim}
use Rattle.std.specs.Prelude.{◌↔◌, ◌==◌, if◌then◌else◌, false}
use Rattle.std.specs.List.{AllByRecursion}
use Rattle.std.proofs.lemmas.Bool.Decides.{eqb_tells}
use Rattle.path_checker.specs.Exploring.{In}
use Rattle.path_checker.specs.Knowing.{Known, IsNone, AgreesWith}
use Rattle.path_checker.specs.Forking.{Narrows, IsOpen, Tells, leaving_out}

-- the value is none of these
abbrev pub IsApart : {A : Type 0} → A → List A → Type 0
IsApart value others = AllByRecursion (λ other. other ≢ value) others

pub apart_after : {A : Type 0} (value other : A) (others : List A) → IsApart value others → other ≢ value → IsApart value (others ++ other ∷ [])
apart_after value other [] all here = (here, tt)
apart_after value other (x ∷ others) all here = (all.0, apart_after value other others all.1 here)

pub none_after : {A : Type 0} (own : Option A) (others : List A) (value : A) → IsNone own others → own ≢ Some value → IsNone own (others ++ value ∷ [])
none_after own [] value all here = (here, tt)
none_after own (x ∷ others) value all here = (all.0, none_after own others value all.1 here)

pub none_before : {A : Type 0} (own : Option A) (others : List A) (value : A) → IsNone own (others ++ value ∷ []) → IsNone own others × (own ≢ Some value)
none_before own [] value all = (tt, all.0)
none_before own (x ∷ others) value all = let y = none_before own others value all.1 in ((all.0, y.0), y.1)

same_some : {A : Type 0} (a b : A) → ◌≡◌ {A = Option A} (Some a) (Some b) → a ≡ b
same_some a b e = cc

pub outside_none : {A : Type 0} (value : A) (others : List A) → (In value others → ⊥) → IsNone (Some value) others
outside_none value [] out = tt
outside_none value (x ∷ others) out = ((λ e. out (inl (sym (same_some value x e)))), outside_none value others (λ h. out (inr h)))

in_none : {A : Type 0} (own : Option A) (others : List A) (value : A) → IsNone own others → In value others → own ≢ Some value
in_none {A} own (x ∷ others) value all (inl e) = subst (λ (y : A). own ≢ Some y) e all.0
in_none own (x ∷ others) value all (inr h) = in_none own others value all.1 h
in_none own [] value all h = absurd h

-- ---- narrowing what is known

pub narrows_has : {A : Type 0} (known : Known A) (value : A) → IsOpen known value → Narrows known (Some value, []) (λ own. own ≡ Some value)
narrows_has {A} known value free own = (
  λ e. (subst (λ (v : Option A). AgreesWith v known.1 own) (sym free.0) (subst (λ (o : Option A). IsNone o known.1) (sym e) (outside_none value known.1 free.1)), e),
  λ h. h.1,
)

pub narrows_has_not : {A : Type 0} (known : Known A) (value : A) → IsOpen known value → Narrows known (leaving_out known value) (λ own. own ≢ Some value)
narrows_has_not {A} known value free own =
    subst (λ (v : Option A). AgreesWith v (known.1 ++ value ∷ []) own ↔ (AgreesWith v known.1 own × (own ≢ Some value))) (sym free.0)
    (λ h. none_before own known.1 value h, λ h. none_after own known.1 value h.0 h.1)

-- ---- what is known tells

pub tells_other : {A : Type 0} (others : List A) (wanted : A) → In wanted others → Tells (None, others) wanted (Some false)
tells_other others wanted h own all = in_none own others wanted all h

-- ---- the least number outside

without : ℕ → List ℕ → List ℕ
without n [] = []
without n (x ∷ xs) = if x == n then without n xs else x ∷ without n xs

without-shorter : (n : ℕ) (xs : List ℕ) → length (without n xs) ≤ length xs
unfolding without
without-shorter n [] = omega arith
without-shorter n (x ∷ xs) =
    ⊎_elim
    (λ h. rw h.0 (omega (arith, without-shorter n xs)))
    (λ h. rw h.0 (omega (arith, without-shorter n xs)))
    (eqb_tells x n)

without-less : (n : ℕ) (xs : List ℕ) → In n xs → length (without n xs) + 1 ≤ length xs
unfolding without
without-less n [] h = absurd h
without-less n (x ∷ xs) (inl e) =
    ⊎_elim
    (λ h. rw h.0 (omega (arith, without-shorter n xs)))
    (λ h. absurd (h.1 e))
    (eqb_tells x n)
without-less n (x ∷ xs) (inr i) =
    ⊎_elim
    (λ h. rw h.0 (omega (arith, without-shorter n xs)))
    (λ h. rw h.0 (omega (arith, without-less n xs i)))
    (eqb_tells x n)

in-without : (n m : ℕ) (xs : List ℕ) → m ≢ n → In m xs → In m (without n xs)
unfolding without
in-without n m [] other h = absurd h
in-without n m (x ∷ xs) other (inl e) =
    ⊎_elim
    (λ h. absurd (other (sym e ∙ h.1)))
    (λ h. rw h.0 (inl e))
    (eqb_tells x n)
in-without n m (x ∷ xs) other (inr i) =
    ⊎_elim
    (λ h. rw h.0 (in-without n m xs other i))
    (λ h. rw h.0 (inr (in-without n m xs other i)))
    (eqb_tells x n)

-- a list that has all numbers below n has at least n elements
pub room_for : (n : ℕ) (xs : List ℕ) → ((m : ℕ) → m < n → In m xs) → n ≤ length xs
room_for zero xs all = omega arith
room_for (suc n) xs all =
    let here : In n xs = all n (omega arith) in
    let rest : n ≤ length (without n xs) = room_for n (without n xs) (λ m lt. in-without n m xs (λ e. absurd (omega (arith, e, lt))) (all m (omega (arith, lt)))) in
    omega (arith, rest, without-less n xs here)
