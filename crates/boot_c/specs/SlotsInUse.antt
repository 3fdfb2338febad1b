-- The slot of a component that is in use (this project's own).
use Rattle.std.specs.Prelude.{◌≡◌, ◌<◌, ◌≤◌, ◌+◌, ℕ, List, Some, length, slice_index, slice_index_or}
use Rattle.boot_c.specs.BootAnswers.{HasConfig}
use Rattle.boot_c.specs.declared.slot.SuitSlot.{SuitSlot}
use Rattle.flash_layout.specs.Slots.{slot_at, slot_content}
use Rattle.flash_layout.specs.Layouts.{slot_starts}
use Rattle.flash_layout.specs.declared.frame.TheConstants.{LENGTH_SIZE}
use Rattle.flash_layout.specs.declared.layout.Entry.{Entry}
use Rattle.flash_layout.specs.declared.layout.Memory.{Memory}
use Rattle.flash_layout.specs.declared.layout.Memory.TheVariants as memory
use Rattle.flash_layout.specs.declared.slot.Record.{Record}
use Rattle.flash_layout.specs.declared.slot.Slot.{Slot}
use Rattle.invoke_proc.specs.Banks.{record_in}
use Rattle.step_machine.specs.InUse.{slot_in_use}

-- the slot of this number of a component in a layout
abbrev pub slot_of : Entry → ℕ → Slot
slot_of entry number = slot_at entry (slice_index (slot_starts entry) number)

-- the content of a slot: where it begins, how many bytes it has and may have
pub record IsSlotOf (entry : Entry) (number : ℕ) (flash : List ℕ) (slot : SuitSlot) : Type 0 where
  pub number_is : slot.number ≡ number
  pub place : slot.place ≡ (slot_of entry number).start + LENGTH_SIZE
  pub length_is : slot.length ≡ length (slot_content (slot_of entry number) flash)
  pub capacity : slot.capacity ≡ entry.capacity

-- the whole capacity lies in the flash, and the content is not longer
abbrev pub SlotLiesIn : List ℕ → SuitSlot → Type 0
SlotLiesIn flash slot = (slot.length ≤ slot.capacity) × (slot.place + slot.capacity ≤ length flash)

-- the component of this index in a layout stands in this memory
pub record StandsIn (layout : List Entry) (component : ℕ) (where_it_is : Memory) : Type 0 where
  pub within : component < length layout
  pub entry : Entry
  pub is : (d : Entry) → entry ≡ slice_index_or layout component d
  pub stands : entry.memory ≡ where_it_is

-- the flash has a record, and the component of this index in its layout stands in flash: in the slot that the record has in use
pub record IsInUse (flash : List ℕ) (component : ℕ) (slot : SuitSlot) : Type 0 where
  pub config : HasConfig flash
  pub installed : Record
  pub recorded : record_in config.frame flash (Some installed)
  pub stands : StandsIn config.layout component memory.Flash
  pub there :
      IsSlotOf stands.entry
      (slot_in_use stands.entry (slice_index installed.active component)) flash slot
