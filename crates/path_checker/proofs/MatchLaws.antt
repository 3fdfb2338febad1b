-- Matches that are lent, one after another.
use Rattle.std.proofs.Common.{◌≡◌, ◌<◌, ◌+◌, ℕ, zero, suc, List, [], ◌∷◌, ◌++◌, length, get_or, take, refl, sym, ap, ◌∙◌, subst, arith, inl, inr}
use Rattle.std.proofs.lemmas.List.{take_more}
use Rattle.path_checker.specs.declared.judge_plan.matches.Lent.{Lent}
use Rattle.path_checker.specs.Exploring.{In}
use Rattle.path_checker.specs.Matches.{Match, match_of, all_lent, SameMembers}
use Rattle.path_checker.proofs.Membership.{In-left, In-right, In-cases}

-- ---- one match more

same_pushed : (m : Match) (xs : List Match) → SameMembers (xs ++ m ∷ []) (m ∷ xs)
same_pushed m xs any = (
  λ h. elim (In-cases any xs (m ∷ []) h) [
    | inl i ↦ inr i
    | inr (inl e) ↦ inl e
    | inr (inr n) ↦ absurd n
  ],
  λ h. elim h [
    | inl e ↦ In-right any xs (m ∷ []) (inl e)
    | inr i ↦ In-left any xs (m ∷ []) i
  ],
)

lent_last : (xs : List Lent) (x : Lent) → all_lent (xs ++ x ∷ []) ≡ all_lent xs ++ match_of x.own.now ∷ []
lent_last [] x = refl
lent_last (y ∷ xs) x = ap (λ (ms : List Match). match_of y.own.now ∷ ms) (lent_last xs x)

pub same_lent : (xs more : List Lent) (x : Lent) → more ≡ xs ++ x ∷ [] → SameMembers (all_lent more) (match_of x.own.now ∷ all_lent xs)
same_lent xs more x pushed =
    subst (λ (ms : List Match). SameMembers ms (match_of x.own.now ∷ all_lent xs)) (sym (ap all_lent pushed ∙ lent_last xs x)) (same_pushed (match_of x.own.now) (all_lent xs))

-- one more match, over others with the same members
pub same_over : (m : Match) (all xs ys : List Match) → SameMembers all (m ∷ xs) → SameMembers xs ys → SameMembers all (m ∷ ys)
same_over m all xs ys more same any = (
  λ h. elim ((more any).0 h) [
    | inl e ↦ inl e
    | inr i ↦ inr ((same any).0 i)
  ],
  λ h. (more any).1 (elim h [
    | inl e ↦ inl e
    | inr i ↦ inr ((same any).1 i)
  ]),
)

-- ---- one of them

lent_at : (xs : List Lent) (i : ℕ) (d : Lent) → i < length xs → In (match_of (get_or xs i d).own.now) (all_lent xs)
lent_at [] i d lt = absurd (omega arith)
lent_at (x ∷ xs) zero d lt = inl refl
lent_at (x ∷ xs) (suc i) d lt = inr (lent_at xs i d (omega arith))

pub lent_here : (xs : List Lent) (i : ℕ) (x : Lent) → i < length xs → x ≡ get_or xs i x → In (match_of x.own.now) (all_lent xs)
lent_here xs i x lt is = subst (λ (y : Lent). In (match_of y.own.now) (all_lent xs)) (sym is) (lent_at xs i x lt)

first_more : (xs : List Lent) (i : ℕ) (x : Lent) → i < length xs → x ≡ get_or xs i x → all_lent (take (i + 1) xs) ≡ all_lent (take i xs) ++ match_of x.own.now ∷ []
first_more xs i x lt is =
    ap all_lent (take_more xs i x lt) ∙ lent_last (take i xs) (get_or xs i x)
    ∙ ap (λ (y : Lent). all_lent (take i xs) ++ match_of y.own.now ∷ []) (sym is)

-- where none of the first is one, and the next is not
pub lent_next : (m : Match) (xs : List Lent) (i : ℕ) (x : Lent) → i < length xs → x ≡ get_or xs i x → (In m (all_lent (take i xs)) → ⊥) → (match_of x.own.now ≡ m → ⊥) → In m (all_lent (take (i + 1) xs)) → ⊥
lent_next m xs i x lt is none not h =
    elim (In-cases m (all_lent (take i xs)) (match_of x.own.now ∷ []) (subst (λ (ms : List Match). In m ms) (first_more xs i x lt is) h)) [
      | inl a ↦ none a
      | inr (inl e) ↦ not e
      | inr (inr n) ↦ n
    ]

-- the first of them and the next are in a list
pub within_next : (others : List Match) (xs : List Lent) (i : ℕ) (x : Lent) → i < length xs → x ≡ get_or xs i x → ((m : Match) → In m (all_lent (take i xs)) → In m others) → In (match_of x.own.now) others → (m : Match) → In m (all_lent (take (i + 1) xs)) → In m others
within_next others xs i x lt is so_far here m h =
    elim (In-cases m (all_lent (take i xs)) (match_of x.own.now ∷ []) (subst (λ (ms : List Match). In m ms) (first_more xs i x lt is) h)) [
      | inl a ↦ so_far m a
      | inr (inl e) ↦ subst (λ (y : Match). In y others) e here
      | inr (inr n) ↦ absurd n
    ]

-- ---- each once

-- the next of them too
pub once_next : (made kept : List Match) (xs : List Lent) (i : ℕ) (x : Lent) → i < length xs → x ≡ get_or xs i x → SameMembers kept (all_lent (take i xs)) → SameMembers made (match_of x.own.now ∷ kept) → SameMembers made (all_lent (take (i + 1) xs))
once_next made kept xs i x lt is same more =
    subst (λ (ms : List Match). SameMembers made ms) (sym (first_more xs i x lt is)) (λ any. (
      λ h. elim ((more any).0 h) [
        | inl e ↦ In-right any (all_lent (take i xs)) (match_of x.own.now ∷ []) (inl e)
        | inr k ↦ In-left any (all_lent (take i xs)) (match_of x.own.now ∷ []) ((same any).0 k)
      ],
      λ h. (more any).1 (elim (In-cases any (all_lent (take i xs)) (match_of x.own.now ∷ []) h) [
        | inl a ↦ inr ((same any).1 a)
        | inr (inl e) ↦ inl e
        | inr (inr n) ↦ absurd n
      ]),
    ))
