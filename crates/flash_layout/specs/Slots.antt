-- The content of a slot. A slot has eight bytes for the content's length, and then room for the content.
use Rattle.std.specs.Prelude.{◌≡◌, ◌≤◌, ◌+◌, ℕ, nat_le, cond, List, [], All, map, take, drop, slice_range}
use Rattle.std.specs.Int.{w64, from_be_bytes}
use Rattle.std.specs.List.{flat_map}
use Rattle.flash_layout.specs.declared.layout.Entry.{Entry}
use Rattle.flash_layout.specs.declared.slot.Slot.{Slot}
use Rattle.flash_layout.specs.declared.frame.TheConstants.{LENGTH_SIZE}
use Rattle.flash_layout.specs.Layouts.{slot_starts}

-- the size of a slot in bytes
abbrev pub extent_of : Slot → ℕ
extent_of slot = LENGTH_SIZE + slot.capacity

-- the slot is inside a flash of this size
abbrev pub LiesWithin : ℕ → Slot → Type 0
LiesWithin size slot = slot.start + extent_of slot ≤ size

-- the slot's bytes in an image
abbrev pub slot_bytes : Slot → List ℕ → List ℕ
slot_bytes slot image = slice_range image slot.start (slot.start + extent_of slot)

unfoldable pub stored_length : List ℕ → ℕ
stored_length bytes = from_be_bytes w64 (take LENGTH_SIZE bytes)

-- The content of a slot; it is empty if the stored length is above the capacity.
unfoldable pub content_of : ℕ → List ℕ → List ℕ
content_of capacity bytes =
    cond (nat_le (stored_length bytes) capacity)
    (take (stored_length bytes) (drop LENGTH_SIZE bytes)) []

-- the content of a slot in an image
abbrev pub slot_content : Slot → List ℕ → List ℕ
slot_content slot image = content_of slot.capacity (slot_bytes slot image)

-- ---- the slots of a layout

-- the slot of a component that starts at p
abbrev pub slot_at : Entry → ℕ → Slot
slot_at e p = record { start = p; capacity = e.capacity }

abbrev pub slots_of : Entry → List Slot
slots_of e = map (slot_at e) (slot_starts e)

abbrev pub layout_slots : List Entry → List Slot
layout_slots layout = flat_map slots_of layout

-- each slot of the layout is empty
abbrev pub AreEmpty : List Entry → List ℕ → Type 0
AreEmpty layout image =
    All (λ e. All (λ p. slot_content (slot_at e p) image ≡ []) (slot_starts e)) layout
