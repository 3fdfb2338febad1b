-- The flash at each moment of an update.
use Rattle.std.specs.Prelude.{◌≡◌, ◌<◌, ℕ, List, [], get_or, slice_index, Option, Some}
use Rattle.suit_commands.specs.Tree.{PlanTree}
use Rattle.flash_layout.specs.declared.frame.Frame.{Frame}
use Rattle.flash_layout.specs.declared.layout.Entry.{Entry}
use Rattle.flash_layout.specs.declared.place.Places.{Places}
use Rattle.flash_layout.specs.declared.slot.Record.{Record}
use Rattle.flash_layout.specs.declared.slot.Slot.{Slot}
use Rattle.flash_layout.specs.Frames.{head_of}
use Rattle.flash_layout.specs.Slots.{extent_of, slot_content}
use Rattle.suit_edge.specs.Ranges.{Outside}
use Rattle.rollback_record.specs.HeadRecord.{RecordOf}
use Rattle.update_proc.specs.Choices.{IsInUse, IsSlotOf, IsTouched}

-- a procedure, and the flash that it is run on: its frame, its layout, and where that has the procedure's components
pub record Placed : Type 0 where
  pub frame : Frame
  pub layout : List Entry
  pub places : Places
  pub tree : PlanTree

abbrev pub placed_on : Frame → List Entry → Places → PlanTree → Placed
placed_on frame layout places tree =
    record { frame = frame; layout = layout; places = places; tree = tree }

-- the place is outside the slots of components that may be written
abbrev pub OutsideTouched : List Entry → Places → PlanTree → List ℕ → ℕ → Type 0
OutsideTouched layout places tree numbers i =
    (slot : Slot) → IsTouched layout places tree numbers slot
    → Outside slot.start (extent_of slot) i

-- the contents of all slots stay that are not slots of components that may be written
abbrev pub KeepsContents : List Entry → Places → PlanTree → List ℕ → List ℕ → List ℕ → Type 0
KeepsContents layout places tree numbers before image =
    (i number : ℕ) (slot : Slot) → IsSlotOf layout i number slot
    → (IsTouched layout places tree numbers slot → ⊥)
    → slot_content slot image ≡ slot_content slot before

-- the contents of all slots stay
abbrev pub HasContentsOf : List Entry → List ℕ → List ℕ → Type 0
HasContentsOf layout made image =
    (i number : ℕ) (slot : Slot) → IsSlotOf layout i number slot
    → slot_content slot image ≡ slot_content slot made

-- the flash has the old record, and no contents changed but those that may be written
pub record IsOld (p : Placed) (numbers : List ℕ) (held : Option Record) (first image : List ℕ)
    : Type 0 where
  pub record_is : RecordOf p.frame (head_of p.frame image) held
  pub contents : KeepsContents p.layout p.places p.tree numbers first image

-- the flash has the new record, and the contents that were made
pub record IsNew (frame : Frame) (layout : List Entry) (new : Record) (made image : List ℕ)
    : Type 0 where
  pub record_is : RecordOf frame (head_of frame image) (Some new)
  pub contents : HasContentsOf layout made image

-- each component of the procedure that is on the flash has this content in its slot in use
abbrev pub HasPlayed : List Entry → Places → List ℕ → List (List ℕ) → List ℕ → Type 0
HasPlayed layout places active contents image =
    (k : ℕ) (slot : Slot) → k < places.count → let index = slice_index places.layout_index k in
    IsSlotOf layout index (slice_index active index) slot
    → slot_content slot image ≡ get_or contents k []

-- the contents of the slots in use stay
abbrev pub HasInUse : List Entry → List ℕ → List ℕ → List ℕ → Type 0
HasInUse layout active made image =
    (slot : Slot) → IsInUse layout active slot → slot_content slot image ≡ slot_content slot made
