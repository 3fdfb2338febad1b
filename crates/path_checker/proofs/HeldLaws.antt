-- The matches of each component, after those of one have changed.
use Rattle.std.proofs.Common.{◌≡◌, ◌≢◌, ◌<◌, ◌≤◌, ◌+◌, ℕ, zero, suc, List, [], ◌∷◌, ◌++◌, length, get_or, take, Option, refl, sym, ap, ◌∙◌, subst, arith, inl, inr, ⊎_elim}
use Rattle.std.specs.Prelude.{◌⊎◌, ◌↔◌, slice_get, slice_set}
use Rattle.std.proofs.lemmas.Bool.Decides.{eqb_tells, leb_tells}
use Rattle.std.proofs.lemmas.Option.{slice_get_past}
use Rattle.std.proofs.Math.Nat.{eq-or-lt_of_le}
use Rattle.path_checker.specs.Exploring.{In}
use Rattle.path_checker.specs.Matches.{Match, matches_from, SameMembers}

abbrev pub Trees : Type 0
Trees = List (List Match)

pub held_set : (of : Trees) (c : ℕ) (tree : List Match) → c < length of → matches_from (slice_get (slice_set of c tree) c) ≡ tree
held_set [] c tree lt = absurd (omega arith)
held_set (x ∷ of) zero tree lt = refl
held_set (x ∷ of) (suc c) tree lt = held_set of c tree (omega arith)

pub held_other : (of : Trees) (c other : ℕ) (tree : List Match) → other ≢ c → slice_get (slice_set of c tree) other ≡ slice_get of other
held_other [] c other tree apart = refl
held_other (x ∷ of) zero zero tree apart = absurd (apart refl)
held_other (x ∷ of) zero (suc other) tree apart = refl
held_other (x ∷ of) (suc c) zero tree apart = refl
held_other (x ∷ of) (suc c) (suc other) tree apart = held_other of c other tree (λ e. apart (ap suc e))

pub held_past : (of : Trees) (c : ℕ) → length of ≤ c → matches_from (slice_get of c) ≡ []
held_past of c le = ap matches_from (slice_get_past of c le)

-- ---- components at the end, of which none stands

held_push : (of : Trees) (c : ℕ) → matches_from (slice_get (of ++ [] ∷ []) c) ≡ matches_from (slice_get of c)
held_push [] zero = refl
held_push [] (suc c) = refl
held_push (x ∷ of) zero = refl
held_push (x ∷ of) (suc c) = held_push of c

pub held_more : (of more : Trees) (none : List Match) → none ≡ [] → more ≡ of ++ none ∷ [] → (c : ℕ) → matches_from (slice_get more c) ≡ matches_from (slice_get of c)
held_more of more none is pushed c =
    ap (λ (ts : Trees). matches_from (slice_get ts c)) (pushed ∙ ap (λ (ms : List Match). of ++ ms ∷ []) is) ∙ held_push of c

abbrev pub NoneFrom : ℕ → Trees → Type 0
NoneFrom n of = (c : ℕ) → n ≤ c → matches_from (slice_get of c) ≡ []

pub held_fewer : (of : Trees) (n : ℕ) → NoneFrom n of → (c : ℕ) → matches_from (slice_get (take n of) c) ≡ matches_from (slice_get of c)
held_fewer of zero none c = sym (none c (omega arith))
held_fewer [] (suc n) none c = refl
held_fewer (x ∷ of) (suc n) none zero = refl
held_fewer (x ∷ of) (suc n) none (suc c) = held_fewer of n (λ k le. none (suc k) (omega (arith, le))) c

-- ---- the matches of one component replaced

pub gains : (of after : Trees) (c : ℕ) (m : Match) (new : List Match) → c < length of → after ≡ slice_set of c new → SameMembers new (m ∷ matches_from (slice_get of c))
    → (other : ℕ) (any : Match) → In any (matches_from (slice_get after other)) ↔ (((other ≡ c) × (any ≡ m)) ⊎ In any (matches_from (slice_get of other)))
gains of after c m new lt is same other any =
    subst (λ (ts : Trees). In any (matches_from (slice_get ts other)) ↔ (((other ≡ c) × (any ≡ m)) ⊎ In any (matches_from (slice_get of other)))) (sym is)
    (⊎_elim
    (λ e. subst (λ (k : ℕ). In any (matches_from (slice_get (slice_set of c new) k)) ↔ (((k ≡ c) × (any ≡ m)) ⊎ In any (matches_from (slice_get of k)))) (sym e.1) here)
    (λ a. there a.1)
    (eqb_tells other c))
  where
    here : In any (matches_from (slice_get (slice_set of c new) c)) ↔ (((c ≡ c) × (any ≡ m)) ⊎ In any (matches_from (slice_get of c)))
    here = (
      λ h. elim ((same any).0 (subst (λ (xs : List Match). In any xs) (held_set of c new lt) h)) [
        | inl e ↦ inl (refl, sym e)
        | inr b ↦ inr b
      ],
      λ h. subst (λ (xs : List Match). In any xs) (sym (held_set of c new lt)) ((same any).1 (elim h [ inl p ↦ inl (sym p.1) | inr b ↦ inr b ])),
    )

    there : other ≢ c → In any (matches_from (slice_get (slice_set of c new) other)) ↔ (((other ≡ c) × (any ≡ m)) ⊎ In any (matches_from (slice_get of other)))
    there apart = (
      λ h. inr (subst (λ (o : Option (List Match)). In any (matches_from o)) (held_other of c other new apart) h),
      λ h. elim h [
        | inl p ↦ absurd (apart p.0)
        | inr b ↦ subst (λ (o : Option (List Match)). In any (matches_from o)) (sym (held_other of c other new apart)) b
      ],
    )

pub loses : (of after : Trees) (c : ℕ) → c < length of → after ≡ slice_set of c []
    → (other : ℕ) (any : Match) → In any (matches_from (slice_get after other)) ↔ ((other ≢ c) × In any (matches_from (slice_get of other)))
loses of after c lt is other any =
    subst (λ (ts : Trees). In any (matches_from (slice_get ts other)) ↔ ((other ≢ c) × In any (matches_from (slice_get of other)))) (sym is)
    (⊎_elim
    (λ e. subst (λ (k : ℕ). In any (matches_from (slice_get (slice_set of c []) k)) ↔ ((k ≢ c) × In any (matches_from (slice_get of k)))) (sym e.1) here)
    (λ a. there a.1)
    (eqb_tells other c))
  where
    here : In any (matches_from (slice_get (slice_set of c []) c)) ↔ ((c ≢ c) × In any (matches_from (slice_get of c)))
    here = (λ h. absurd (subst (λ (xs : List Match). In any xs) (held_set of c [] lt) h), λ h. absurd (h.0 refl))

    there : other ≢ c → In any (matches_from (slice_get (slice_set of c []) other)) ↔ ((other ≢ c) × In any (matches_from (slice_get of other)))
    there apart = (
      λ h. (apart, subst (λ (o : Option (List Match)). In any (matches_from o)) (held_other of c other [] apart) h),
      λ h. subst (λ (o : Option (List Match)). In any (matches_from o)) (sym (held_other of c other [] apart)) h.1,
    )

-- a component outside the list has no matches
pub loses_none : (of : Trees) (c : ℕ) → length of ≤ c → (other : ℕ) (any : Match) → In any (matches_from (slice_get of other)) ↔ ((other ≢ c) × In any (matches_from (slice_get of other)))
loses_none of c le other any = (
  λ h. (λ e. subst (λ (xs : List Match). In any xs) (held_past of c le) (subst (λ (k : ℕ). In any (matches_from (slice_get of k))) e h), h),
  λ h. h.1,
)

-- ---- the same matches

pub same_held_past : (of others : Trees) (c : ℕ) → length of ≤ c → length others ≤ c → (any : Match) → In any (matches_from (slice_get of c)) ↔ In any (matches_from (slice_get others c))
same_held_past of others c le le' any = (
  λ h. absurd (subst (λ (xs : List Match). In any xs) (held_past of c le) h),
  λ h. absurd (subst (λ (xs : List Match). In any xs) (held_past others c le') h),
)

pub held_at : (of : Trees) (c : ℕ) (d : List Match) → c < length of → matches_from (slice_get of c) ≡ get_or of c d
held_at [] c d lt = absurd (omega arith)
held_at (x ∷ of) zero d lt = refl
held_at (x ∷ of) (suc c) d lt = held_at of c d (omega arith)

-- the last component has none either
pub none_before : (of : Trees) (n : ℕ) (d one : List Match) → n < length of → one ≡ get_or of n d → one ≡ [] → NoneFrom (n + 1) of → NoneFrom n of
none_before of n d one lt is none rest c le =
    ⊎_elim
    (λ e. subst (λ (k : ℕ). matches_from (slice_get of k) ≡ []) e (held_at of n d lt ∙ sym is ∙ none))
    (λ l. rest c (omega (arith, l)))
    (eq-or-lt_of_le le)

-- the matches of each component are the same
pub same_held_at : (of others : Trees) (i c : ℕ) → ((k : ℕ) → k < i → (any : Match) → In any (matches_from (slice_get of k)) ↔ In any (matches_from (slice_get others k))) → length of ≤ i → length others ≤ i → (any : Match) → In any (matches_from (slice_get of c)) ↔ In any (matches_from (slice_get others c))
same_held_at of others i c so_far le le' any = ⊎_elim
    (λ h. same_held_past of others c (omega (arith, le, h.1)) (omega (arith, le', h.1)) any)
    (λ h. so_far c (omega (arith, h.1)) any)
    (leb_tells i c)

pub same_here : (of others : Trees) (i : ℕ) (d d' one other : List Match) → i < length of → i < length others → one ≡ get_or of i d → other ≡ get_or others i d' → SameMembers one other
    → (any : Match) → In any (matches_from (slice_get of i)) ↔ In any (matches_from (slice_get others i))
same_here of others i d d' one other lt lt' is is' same any =
    let mine : matches_from (slice_get of i) ≡ one = held_at of i d lt ∙ sym is in
    let theirs : matches_from (slice_get others i) ≡ other = held_at others i d' lt' ∙ sym is' in
    subst (λ (xs : List Match). In any xs ↔ In any (matches_from (slice_get others i))) (sym mine) (subst (λ (xs : List Match). In any one ↔ In any xs) (sym theirs) (same any))

pub same_next : (of others : Trees) (i c : ℕ) → ((k : ℕ) → k < i → (any : Match) → In any (matches_from (slice_get of k)) ↔ In any (matches_from (slice_get others k))) → ((any : Match) → In any (matches_from (slice_get of i)) ↔ In any (matches_from (slice_get others i))) → c < i + 1
    → (any : Match) → In any (matches_from (slice_get of c)) ↔ In any (matches_from (slice_get others c))
same_next of others i c so_far here lt any =
    let le : c ≤ i = omega (arith, lt) in
    ⊎_elim
    (λ e. subst (λ (k : ℕ). In any (matches_from (slice_get of k)) ↔ In any (matches_from (slice_get others k))) (sym e) (here any))
    (λ l. so_far c l any)
    (eq-or-lt_of_le le)
