-- The refusals of components, stated of the slice that was judged.
use Rattle.std.proofs.Common.{◌≡◌, ◌<◌, ◌≤◌, ℕ, List, length, Result, Ok, Err, subst}
use Rattle.std.specs.Prelude.{MatchResult}
use Rattle.suit_params.specs.Alike.{IsFirstAlike, HaveNoneAlike}
use Rattle.flash_layout.specs.declared.frame.Frame.{Frame}
use Rattle.flash_layout.specs.declared.layout.Entry.{Entry}
use Rattle.flash_layout.specs.declared.layout_fault.LayoutFault.{LayoutFault}
use Rattle.flash_layout.specs.declared.layout_fault.LayoutFault.TheVariants.{TooMany, TwoAlike, Overlap, Outside}
use Rattle.flash_layout.specs.Frames.{most}
use Rattle.flash_layout.specs.Overlaps.{identifier_of, AreInside, IsFirstOverlap, HaveNoOverlap, IsFirstOutside}
use Rattle.flash_layout.specs.LayoutFaults.{AreHeld, IsBaseHeld, RefusesBase, RefusesEntries, Many, Alike, Shared, Beyond, Misplaced}

module _ (frame : Frame) (size : ℕ) (entries layout : List Entry) (same : entries ≡ layout) where
  pub many_told : most frame < length entries → RefusesEntries frame size layout (TooMany (length entries))
  many_told h = subst (λ l. RefusesEntries frame size l (TooMany (length entries))) same (Many h)

  pub alike_told : (i j : ℕ) → length entries ≤ most frame → IsFirstAlike identifier_of entries i j → RefusesEntries frame size layout (TwoAlike i j)
  alike_told i j few a = subst (λ l. RefusesEntries frame size l (TwoAlike i j)) same (Alike i j few a)

  pub overlap_told : (i j : ℕ) → length entries ≤ most frame → HaveNoneAlike identifier_of entries → IsFirstOverlap entries i j → RefusesEntries frame size layout (Overlap i j)
  overlap_told i j few none a = subst (λ l. RefusesEntries frame size l (Overlap i j)) same (Shared i j few none a)

  pub outside_told : (i : ℕ) → length entries ≤ most frame → HaveNoneAlike identifier_of entries → HaveNoOverlap entries → IsFirstOutside size entries i → RefusesEntries frame size layout (Outside i)
  outside_told i few none clear a = subst (λ l. RefusesEntries frame size l (Outside i)) same (Beyond i few none clear a)

  pub base_told : (fault : LayoutFault) → length entries ≤ most frame → HaveNoneAlike identifier_of entries → HaveNoOverlap entries → AreInside size entries → RefusesBase frame size entries fault
      → RefusesEntries frame size layout fault
  base_told fault few none clear inside base =
      subst (λ l. RefusesEntries frame size l fault) same (Misplaced fault few none clear inside base)

  pub held_told : length entries ≤ most frame → HaveNoneAlike identifier_of entries → HaveNoOverlap entries → AreInside size entries → IsBaseHeld frame size entries → AreHeld frame size layout
  held_told few none clear inside base =
      subst (AreHeld frame size) same (record { few = few; apart = none; clear = clear; inside = inside; base = base })

  pub base_judged : {A : Type 0} (r : Result A LayoutFault) → length entries ≤ most frame → HaveNoneAlike identifier_of entries → HaveNoOverlap entries → AreInside size entries
      → MatchResult r (λ _. IsBaseHeld frame size entries) (RefusesBase frame size entries) → MatchResult r (λ _. AreHeld frame size layout) (RefusesEntries frame size layout)
  base_judged (Ok u) few none clear inside base = held_told few none clear inside base
  base_judged (Err fault) few none clear inside base = base_told fault few none clear inside base
