-- Slots of a layout stay as they are while nothing is written where slots may be.
use Rattle.std.proofs.Common.{◌≡◌, ⊎_elim, inl, inr, ◌≤◌, ◌+◌, ℕ, List, [], ◌∷◌, length, get_or, take, refl, sym, ap, subst, arith}
use Rattle.std.specs.List.{All}
use Rattle.std.proofs.lemmas.Bool.{cases_lt}
use Rattle.std.proofs.lemmas.List.Elements.{All-append, All-head, All-map, All-nil, All-tail, All-weaker}
use Rattle.suit_edge.specs.RangeLaws.{same_range}
use Rattle.suit_edge.specs.Ranges.{Outside}
use Rattle.flash_layout.specs.declared.frame.Frame.{Frame}
use Rattle.flash_layout.specs.declared.layout.Entry.{Entry}
use Rattle.flash_layout.specs.declared.layout.Memory.{Memory}
use Rattle.flash_layout.specs.declared.layout.Memory.TheVariants as memory
use Rattle.flash_layout.specs.declared.slot.Slot.{Slot}
use Rattle.flash_layout.specs.Frames.{frame_size}
use Rattle.flash_layout.specs.Layouts.{IsBehindHead, IsEntry, IsOfMemory, slot_size, slot_starts, starts_in}
use Rattle.flash_layout.specs.Slots.{content_of, layout_slots, slot_at, slot_content, slots_of}

-- each slot lies behind the first bytes, within the flash, and apart from what stands at the base
behind : (frame : Frame) (size : ℕ) (e : Entry) → IsEntry frame size e → All (λ p. IsBehindHead frame size p (slot_size e)) (slot_starts e)
behind frame size e is = by_memory e.memory refl is.held
  where
    by_memory : (m : Memory) → e.memory ≡ m → IsOfMemory frame size e m → All (λ p. IsBehindHead frame size p (slot_size e)) (slot_starts e)
    by_memory memory.Flash same held = held.4
    by_memory memory.Ram same held =
        subst (λ (m : Memory). All (λ p. IsBehindHead frame size p (slot_size e)) (starts_in m (take e.slots e.starts))) (sym same) (All-nil (λ p. IsBehindHead frame size p (slot_size e)))

module _ (frame : Frame) (size : ℕ) (image other : List ℕ) (long : length image ≡ length other) (sized : length other ≡ size)
    (same : (i : ℕ) → 49152 ≤ i → Outside frame.base (frame_size frame) i → get_or image i 0 ≡ get_or other i 0) where
  abbrev pub IsSame : Slot → Type 0
  IsSame slot = slot_content slot image ≡ slot_content slot other

  one : (e : Entry) (p : ℕ) → IsBehindHead frame size p (slot_size e) → IsSame (slot_at e p)
  one e p there =
      ap (content_of e.capacity) (same_range image other p (p + slot_size e) long (omega (arith, there.1, long, sized))
      (λ i low high. same i (omega (arith, there.0, low)) (⊎_elim
      (λ before. let end = there.2.1 (omega (arith, before)) in inl (omega (arith, end, high)))
      (λ from. let start = there.2.0 from in inr (omega (arith, start, low)))
      (cases_lt p frame.base))))

  pub same_slots : (layout : List Entry) → All (IsEntry frame size) layout → All IsSame (layout_slots layout)
  same_slots [] each = All-nil IsSame
  same_slots (e ∷ layout) each =
      All-append IsSame (slots_of e) (layout_slots layout)
      (All-map IsSame (slot_at e) (slot_starts e) (All-weaker (λ p. IsBehindHead frame size p (slot_size e)) (λ p. IsSame (slot_at e p)) (λ p there. one e p there) (slot_starts e) (behind frame size e (All-head (IsEntry frame size) e layout each))))
      (same_slots layout (All-tail (IsEntry frame size) e layout each))
