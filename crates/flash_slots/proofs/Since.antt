-- The images of a flash while a slot's content is replaced.
use Rattle.std.proofs.Common.{◌≡◌, inl, inr, ◌≤◌, ℕ, ◌+◌, List, length, ◌∙◌, ap, arith}
use Rattle.suit_edge.specs.Flash.{Flash, Now, Passes, ImageOn, Keeps, IsSame, IsSettled, IsFlash}
use Rattle.suit_edge.specs.FlashLaws.{joined, weakens}
use Rattle.suit_edge.specs.Ranges.{Outside}
use Rattle.suit_edge.specs.RangeLaws.{same_range}
use Rattle.flash_layout.specs.declared.slot.Slot.{Slot}
use Rattle.flash_slots.specs.Contents.{IsEmptyInEach, IsEmptyOrWhole, IsEmptySlot, pieces_of}
use Rattle.flash_slots.proofs.Stored.{still_empty}

-- while a piece is written
pub empty_since : (slot : Slot) (m n size : ℕ) (a b : Flash) → IsFlash a size → slot.start + (8 + slot.capacity) ≤ size → Keeps (Outside (slot.start + 8 + m) n) a b → IsEmptyInEach slot a
    → Passes a b (IsEmptySlot slot)
empty_since slot m n size a b law inside kept empty =
    weakens a b (ImageOn (Outside (slot.start + 8 + m) n) a) (IsEmptySlot slot)
    (λ image on. still_empty slot on.from image m n (fits on.from (law.sized a.clock on.from (omega arith) on.was)) on.same (empty on.from on.was)) kept.images
  where
    fits : (l : List ℕ) → length l ≡ size → slot.start + (8 + slot.capacity) ≤ length l
    fits l long = omega (arith, long, inside)

module _ (slot : Slot) (n : ℕ) (a b : Flash) (same : IsSame a b) (empty : IsEmptyInEach slot a) where
  -- while the pieces are synced
  pub empty_until : Passes a b (IsEmptyOrWhole slot n a.reads)
  empty_until = weakens a b (Now a) (IsEmptyOrWhole slot n a.reads) (λ image now. inl (empty image now)) same.images

  -- while the length is stored then
  pub whole_since : (c : Flash) (size k : ℕ) → IsFlash b size → slot.start + (8 + slot.capacity) ≤ size → n ≤ slot.capacity → IsSettled b → k ≡ 8 → Keeps (Outside slot.start k) b c
      → Passes a c (IsEmptyOrWhole slot n a.reads)
  whole_since c size k law inside few settled k_is kept =
      joined a b c (IsEmptyOrWhole slot n a.reads) empty_until (weakens b c (ImageOn (Outside slot.start k) b) (IsEmptyOrWhole slot n a.reads) (λ image on. inr (stands image on)) kept.images)
    where
      stands : (image : List ℕ) → ImageOn (Outside slot.start k) b image → pieces_of slot n image ≡ pieces_of slot n a.reads
      stands image on =
          let was : on.from ≡ b.reads = settled on.from on.was in
          let long : length on.from ≡ size = ap length was ∙ law.fits in
          same_range image on.from (slot.start + 8) (slot.start + 8 + n) on.same.size (omega (arith, on.same.size, long, inside, few)) (λ i low high. on.same.same i (inr (omega (arith, low, k_is))))
          ∙ ap (pieces_of slot n) (was ∙ same.reads)
