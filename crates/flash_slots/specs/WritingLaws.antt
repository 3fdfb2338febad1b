-- Laws of a slot that is emptied, filled piece by piece, and finished: how the clauses of these calls follow
-- each other from moment to moment, which no clause of a contract can state.
use Rattle.std.proofs.Common.{◌∙◌, ℕ, ap}
use Rattle.suit_edge.specs.Flash.{Flash, IsFlash, IsSettled, Passes}
use Rattle.suit_edge.specs.FlashLaws.{each_now}
use Rattle.flash_layout.specs.declared.slot.Slot.{Slot}
use Rattle.flash_layout.specs.Slots.{slot_content}
use Rattle.flash_slots.specs.Contents.{IsEmptyInEach, IsEmptySlot}

-- after the slot was emptied
pub emptied : (slot : Slot) (f : Flash) → IsSettled f → IsEmptySlot slot f.reads
    → IsEmptyInEach slot f
emptied slot f settled empty image now = ap (slot_content slot) (settled image now) ∙ empty

-- after a piece was appended
pub appended : (slot : Slot) (a b : Flash) (size : ℕ) → IsFlash b size
    → Passes a b (IsEmptySlot slot) → IsEmptyInEach slot b
appended slot a b size law run = each_now a b size (IsEmptySlot slot) law run
