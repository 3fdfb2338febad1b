-- Reading a slot's content, and the content after a write.
use Rattle.std.specs.Prelude.{◌≡◌, ◌⊎◌, ◌<◌, ◌≤◌, ◌+◌, ◌-◌, ℕ, min, List, [], ◌++◌, length, take, drop, slice_range, Result, Ok, Err}
use Rattle.suit_edge.specs.Faults.{Faulted}
use Rattle.suit_edge.specs.Flash.{Flash, Now}
use Rattle.flash_layout.specs.declared.frame.TheConstants.{LENGTH_SIZE}
pub use Rattle.flash_layout.specs.FaultCounts.{ResultCounts}
use Rattle.flash_layout.specs.declared.slot.Slot.{Slot}
use Rattle.flash_layout.specs.Slots.{slot_content}
use Rattle.flash_slots.specs.declared.writing.AppendFault.{AppendFault}
use Rattle.flash_slots.specs.declared.writing.AppendFault.TheVariants as fault

-- ---- reading

-- the content from byte `from` on, as much of it as fits into the room, whose other bytes stay
pub record IsRead (content : List ℕ) (from : ℕ) (old new : List ℕ) (count : ℕ) : Type 0 where
  pub count_is : count ≡ min (length old) (length content - from)
  pub bytes : new ≡ take count (drop from content) ++ drop count old

-- n bytes of the room for the content, from byte `from` on
abbrev pub part_of : Slot → ℕ → ℕ → List ℕ → List ℕ
part_of slot from n image =
    slice_range image (slot.start + LENGTH_SIZE + from) (slot.start + LENGTH_SIZE + from + n)

-- ---- writing

-- the first n bytes of the room for the content
abbrev pub pieces_of : Slot → ℕ → List ℕ → List ℕ
pieces_of slot n image = slice_range image (slot.start + LENGTH_SIZE) (slot.start + LENGTH_SIZE + n)

-- all bytes of the room for the content, whatever the content's length
abbrev pub area_of : Slot → List ℕ → List ℕ
area_of slot image = pieces_of slot slot.capacity image

abbrev pub IsEmptySlot : Slot → List ℕ → Type 0
IsEmptySlot slot image = slot_content slot image ≡ []

-- the slot is empty in each image that a power loss now may leave
abbrev pub IsEmptyInEach : Slot → Flash → Type 0
IsEmptyInEach slot f = (image : List ℕ) → Now f image → IsEmptySlot slot image

-- the slot is empty, or holds all the pieces as they were
abbrev pub IsEmptyOrWhole : Slot → ℕ → List ℕ → List ℕ → Type 0
IsEmptyOrWhole slot n old image =
    IsEmptySlot slot image ⊎ (pieces_of slot n image ≡ pieces_of slot n old)

-- a piece is refused as too large, with the capacity, if and only if it does not fit
abbrev pub AppendsWithin : {A : Type 0} → Result A AppendFault → ℕ → ℕ → Type 0
AppendsWithin (Ok _) capacity sum = sum ≤ capacity
AppendsWithin (Err (fault.TooLarge n)) capacity sum = (capacity < sum) × (n ≡ capacity)
AppendsWithin (Err fault.FlashFault) capacity sum = sum ≤ capacity

-- the count of faults rises for a fault of the flash, and stays otherwise
abbrev pub AppendCounts : {A : Type 0} → Result A AppendFault → ℕ → ℕ → Type 0
AppendCounts (Ok _) before now = now ≡ before
AppendCounts (Err (fault.TooLarge n)) before now = now ≡ before
AppendCounts (Err fault.FlashFault) before now = Faulted before now

-- P holds if a piece was refused as too large
abbrev pub IfTooLarge : {A : Type 0} → Result A AppendFault → Type 0 → Type 0
IfTooLarge (Ok _) P = Unit {0}
IfTooLarge (Err (fault.TooLarge n)) P = P
IfTooLarge (Err fault.FlashFault) P = Unit {0}
