-- The slots that components stand for, one by one.
use Rattle.std.proofs.Common.{◌≡◌, ◌⊎◌, inl, inr, ⊎_elim, ◌<◌, ℕ, zero, suc, ◌+◌, ◌-◌, List, [], ◌∷◌, length, get_or, set, ◌↔◌, refl, sym, ◌∙◌, ap, subst, arith, get_or-set_other, get_or-set_same}
use Rattle.std.proofs.lemmas.Bool.{cases_eq}
use Rattle.suit_commands.specs.Tree.{PlanTree}
use Rattle.suit_commands.specs.Bits.{HasBit}
use Rattle.suit_commands.specs.Targets.{IsTarget}
use Rattle.flash_layout.specs.declared.layout.Entry.{Entry}
use Rattle.flash_layout.specs.declared.place.Places.{Places}
use Rattle.update_proc.specs.Choices.{HasWritten, IsWritten}

-- a set of components that has exactly those that may be written
module _ (tree : PlanTree) (places : Places) (bits i : ℕ) (exact : (component : ℕ) → HasBit bits component ↔ IsTarget tree component) where
  pub to_written : HasWritten places bits i → IsWritten tree places i
  to_written h = record { component = h.component; few = h.few; target = (exact h.component).0 h.member; there = h.there }

  pub from_written : IsWritten tree places i → HasWritten places bits i
  from_written h = record { component = h.component; few = h.few; member = (exact h.component).1 h.target; there = h.there }

-- how many slots a component has, whatever stands for one that is not there
pub other_default : (xs : List Entry) (i : ℕ) (d e : Entry) → i < length xs → get_or xs i d ≡ get_or xs i e
other_default [] i d e lt = absurd (omega (arith, lt))
other_default (x ∷ xs) zero d e lt = refl
other_default (x ∷ xs) (suc i) d e lt = other_default xs i d e (omega (arith, lt))

module _ (entries layout : List Entry) (i : ℕ) (x : Entry) (same : entries ≡ layout) where
  pub to_two : ((e : Entry) → (get_or layout i e).slots ≡ 2) → (get_or entries i x).slots ≡ 2
  to_two two = ap (λ (l : List Entry). (get_or l i x).slots) same ∙ two x

  pub from_two : i < length layout → (get_or entries i x).slots ≡ 2 → (e : Entry) → (get_or layout i e).slots ≡ 2
  from_two lt h e =
      ap (λ (y : Entry). y.slots) (other_default layout i e x lt) ∙ sym (ap (λ (l : List Entry). (get_or l i x).slots) same) ∙ h

-- one number more
module _ (Other : ℕ → Type 0) (active numbers : List ℕ) (i n : ℕ) (room : i < length numbers) where
  pub more_other : ((j : ℕ) → j < i → Other j → get_or numbers j 0 ≡ 1 - get_or active j 0) → (Other i → n ≡ 1 - get_or active i 0) → (j : ℕ) → j < i + 1 → Other j → get_or (set numbers i n) j 0 ≡ 1 - get_or active j 0
  more_other before here j lt is = ⊎_elim
      (λ e. subst (λ (k : ℕ). get_or (set numbers i n) k 0 ≡ 1 - get_or active k 0) (sym e) (get_or-set_same numbers i n 0 room ∙ here (subst Other e is)))
      (λ ne. get_or-set_other numbers i j n 0 ne ∙ before j (omega (arith, lt, ne)) is)
      (cases_eq j i)

  pub more_same : ((j : ℕ) → (j < i → Other j → ⊥) → get_or numbers j 0 ≡ get_or active j 0) → ((Other i → ⊥) → n ≡ get_or active i 0) → (j : ℕ) → (j < i + 1 → Other j → ⊥) → get_or (set numbers i n) j 0 ≡ get_or active j 0
  more_same before here j not = ⊎_elim
      (λ e. subst (λ (k : ℕ). get_or (set numbers i n) k 0 ≡ get_or active k 0) (sym e) (get_or-set_same numbers i n 0 room ∙ here (λ is. not (omega (arith, e)) (subst Other (sym e) is))))
      (λ ne. get_or-set_other numbers i j n 0 ne ∙ before j (λ lt is. not (omega (arith, lt)) is))
      (cases_eq j i)

-- each number, so far
module _ (Has : ℕ → Type 0) (active numbers : List ℕ) (i n : ℕ) (room : i < length numbers) where
  pub more_either : ((j : ℕ) → (get_or numbers j 0 ≡ get_or active j 0) ⊎ (Has j × (get_or numbers j 0 ≡ 1 - get_or active j 0))) → (n ≡ get_or active i 0) ⊎ (Has i × (n ≡ 1 - get_or active i 0))
      → (j : ℕ) → (get_or (set numbers i n) j 0 ≡ get_or active j 0) ⊎ (Has j × (get_or (set numbers i n) j 0 ≡ 1 - get_or active j 0))
  more_either before here j = ⊎_elim
      (λ e. subst (λ (k : ℕ). (get_or (set numbers i n) k 0 ≡ get_or active k 0) ⊎ (Has k × (get_or (set numbers i n) k 0 ≡ 1 - get_or active k 0))) (sym e)
      (⊎_elim (λ same. inl (get_or-set_same numbers i n 0 room ∙ same)) (λ other. inr (other.0, get_or-set_same numbers i n 0 room ∙ other.1)) here))
      (λ ne. ⊎_elim (λ same. inl (get_or-set_other numbers i j n 0 ne ∙ same)) (λ other. inr (other.0, get_or-set_other numbers i j n 0 ne ∙ other.1)) (before j))
      (cases_eq j i)
