-- Two slots are all slots of a list of two.
use Rattle.std.proofs.Common.{◌≡◌, inl, inr, ⊎_elim, ◌⊎◌, ℕ, zero, suc, List, [], ◌∷◌, sym, ◌∙◌, subst, arith}
use Rattle.std.specs.Prelude.{Contains}
use Rattle.flash_layout.specs.declared.slot.Slot.{Slot}
use Rattle.flash_layout.specs.Layouts.{AreClear}
use Rattle.flash_layout.specs.Slots.{extent_of}
use Rattle.swap_journal.specs.declared.swap.Journal.{Journal}
use Rattle.swap_journal.specs.Swaps.{ArePlaced, ArePlacedAll, IsPlaced}

one_of : (a b s : Slot) → Contains (b ∷ a ∷ []) s → (b ≡ s) ⊎ (a ≡ s)
one_of a b s (zero, lt, e) = inl e
one_of a b s (suc zero, lt, e) = inr e
one_of a b s (suc (suc k), lt, e) = absurd (omega (arith, lt))

pub both_placed : (j : Journal) (size : ℕ) (a b : Slot) → ArePlaced j size a b → ArePlacedAll j size (b ∷ a ∷ [])
both_placed j size a b placed = record {
  each = λ s has. ⊎_elim (λ e. subst (λ (x : Slot). IsPlaced j size x) e placed.second) (λ e. subst (λ (x : Slot). IsPlaced j size x) e placed.first) (one_of a b s has);
  apart = λ x y has too differ. ⊎_elim
      (λ e. ⊎_elim (λ f. absurd (differ (sym e ∙ f))) (λ f. clear b a x y e f (placed.slots.1, placed.slots.0)) (one_of a b y too))
      (λ e. ⊎_elim (λ f. clear a b x y e f placed.slots) (λ f. absurd (differ (sym e ∙ f))) (one_of a b y too))
      (one_of a b x has);
}
  where
    clear : (p q x y : Slot) → p ≡ x → q ≡ y → AreClear p.start (extent_of p) q.start (extent_of q) → AreClear x.start (extent_of x) y.start (extent_of y)
    clear p q x y e f c = subst (λ (v : Slot). AreClear v.start (extent_of v) y.start (extent_of y)) e (subst (λ (v : Slot). AreClear p.start (extent_of p) v.start (extent_of v)) f c)
