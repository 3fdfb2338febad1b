-- Components that are listed one after another.
use Rattle.std.proofs.Common.{◌≡◌, ◌<◌, ◌+◌, ℕ, zero, suc, List, [], ◌∷◌, ◌++◌, get_or, length, refl, ap, subst, ◌∙◌, arith, ⊎_elim}
use Rattle.std.proofs.lemmas.Bool.{cases_lt}
use Rattle.std.specs.Prelude.{slice_index}
use Rattle.flash_layout.specs.declared.layout.Entry.{Entry}
use Rattle.flash_layout.specs.declared.place.Places.{Places}
use Rattle.step_machine.specs.declared.spot.Standing.{Standing}
use Rattle.step_machine.specs.declared.world.SlotChoice.{SlotChoice}
use Rattle.step_machine.specs.Worlds.{HaveTwo, standing_of}

-- so many of them are listed
pub record StandSo (layout : List Entry) (places : Places) (slots : SlotChoice) (standings : List Standing) (n : ℕ) : Type 0 where
  pub count : length standings ≡ n
  pub each : (k : ℕ) (d : Standing) (e : Entry) → k < n
      → get_or standings k d ≡ standing_of (get_or layout (slice_index places.layout_index k) e) k (slice_index places.layout_index k) (slice_index slots.number (slice_index places.layout_index k))

module _ {A : Type 0} where
  snoc_other : (xs : List A) (x : A) (k : ℕ) (d : A) → k < length xs → get_or (xs ++ x ∷ []) k d ≡ get_or xs k d
  snoc_other [] x k d lt = absurd (omega (arith, lt))
  snoc_other (y ∷ xs) x zero d lt = refl
  snoc_other (y ∷ xs) x (suc k) d lt = snoc_other xs x k d (omega (arith, lt))

  snoc_last : (xs : List A) (x : A) (k : ℕ) (d : A) → length xs ≡ k → get_or (xs ++ x ∷ []) k d ≡ x
  snoc_last [] x zero d e = refl
  snoc_last [] x (suc k) d e = absurd (omega (arith, e))
  snoc_last (y ∷ xs) x zero d e = absurd (omega (arith, e))
  snoc_last (y ∷ xs) x (suc k) d e = snoc_last xs x k d (omega (arith, e))

  snoc_long : (xs : List A) (x : A) → length (xs ++ x ∷ []) ≡ length xs + 1
  snoc_long [] x = refl
  snoc_long (y ∷ xs) x = let h = snoc_long xs x in omega (arith, h)

  same_at : (l : List A) (i : ℕ) (e d : A) → i < length l → get_or l i e ≡ get_or l i d
  same_at [] i e d lt = absurd (omega (arith, lt))
  same_at (x ∷ l) zero e d lt = refl
  same_at (x ∷ l) (suc i) e d lt = same_at l i e d (omega (arith, lt))

module _ (layout : List Entry) (places : Places) (slots : SlotChoice) (list : List Standing) (n : ℕ) (s : Standing) (d0 : Entry) (inside : slice_index places.layout_index n < length layout) where
  pub stand_more : StandSo layout places slots list n
      → s ≡ standing_of (get_or layout (slice_index places.layout_index n) d0) n (slice_index places.layout_index n) (slice_index slots.number (slice_index places.layout_index n))
      → (more : List Standing) → more ≡ list ++ s ∷ [] → StandSo layout places slots more (n + 1)
  stand_more so is more e =
      let long = snoc_long list s in
      let same : length more ≡ length (list ++ s ∷ []) = ap length e in
      let few = so.count in
      record {
        count = omega (arith, long, same, few);
        each = λ k d x lt.
            ⊎_elim
            (λ below.
            let within : k < length list = omega (arith, below, few) in
            ap (λ (l : List Standing). get_or l k d) e ∙ snoc_other list s k d within ∙ so.each k d x below)
            (λ le.
            let last : n ≡ k = omega (arith, le, lt) in
            subst (λ (j : ℕ). get_or more j d ≡ standing_of (get_or layout (slice_index places.layout_index j) x) j (slice_index places.layout_index j) (slice_index slots.number (slice_index places.layout_index j))) last
            (ap (λ (l : List Standing). get_or l n d) e ∙ snoc_last list s n d few ∙ is
            ∙ ap (λ (y : Entry). standing_of y n (slice_index places.layout_index n) (slice_index slots.number (slice_index places.layout_index n))) (same_at layout (slice_index places.layout_index n) d0 x inside)))
            (cases_lt k n);
      }

  pub two_more : HaveTwo layout places n → length (get_or layout (slice_index places.layout_index n) d0).starts ≡ 2 → HaveTwo layout places (n + 1)
  two_more two here k x lt =
      ⊎_elim (λ below. two k x below)
      (λ le.
      let last : n ≡ k = omega (arith, le, lt) in
      subst (λ (j : ℕ). length (get_or layout (slice_index places.layout_index j) x).starts ≡ 2) last
      (ap (λ (y : Entry). length y.starts) (same_at layout (slice_index places.layout_index n) x d0 inside) ∙ here))
      (cases_lt k n)
