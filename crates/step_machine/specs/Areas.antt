-- The rooms for contents, in slots or working memory. A content is the first bytes of its room.
use Rattle.std.specs.Prelude.{◌≡◌, ◌<◌, ◌+◌, ℕ, List, length, take}
use Rattle.flash_layout.specs.Slots.{LiesWithin}
use Rattle.flash_layout.specs.declared.frame.TheConstants.{LENGTH_SIZE}
use Rattle.flash_slots.specs.Contents.{area_of}
use Rattle.flash_slots.specs.RamContents.{Held, held_by}
use Rattle.suit_edge.specs.Ranges.{Outside}
use Rattle.step_machine.specs.declared.spot.Spot.{Spot}
use Rattle.step_machine.specs.declared.spot.Spot.TheVariants as spots

-- the bytes of the room: all of a slot, whatever the length of its content, and the content in working memory
abbrev pub area_at : Spot → List Held → List ℕ → List ℕ
area_at (spots.Flash slot) ram reads = area_of slot reads
area_at (spots.Ram component) ram reads = (held_by ram component).content

-- how many bytes these are
abbrev pub size_at : Spot → List Held → ℕ
size_at (spots.Flash slot) ram = slot.capacity
size_at (spots.Ram component) ram = length (held_by ram component).content

-- if the spot is in working memory, it is one of the components there
abbrev pub IsHeld : Spot → List Held → Type 0
IsHeld (spots.Flash slot) ram = Unit {0}
IsHeld (spots.Ram component) ram = component < length ram

-- a content in working memory still begins with the bytes that it had
abbrev pub KeepsFront : Spot → List Held → List Held → Type 0
KeepsFront (spots.Flash slot) old new = Unit {0}
KeepsFront (spots.Ram component) old new =
    take (length (held_by old component).content) (held_by new component).content
    ≡ (held_by old component).content

-- if the spot is a slot, it is within a flash of this size
abbrev pub IsSlotWithin : ℕ → Spot → Type 0
IsSlotWithin size (spots.Flash slot) = LiesWithin size slot
IsSlotWithin size (spots.Ram component) = Unit {0}

-- the place is outside the room of the slot
abbrev pub OutsideRoom : Spot → ℕ → Type 0
OutsideRoom (spots.Flash slot) i = Outside (slot.start + LENGTH_SIZE) slot.capacity i
OutsideRoom (spots.Ram component) i = Unit {0}

-- the place is outside the stored length of the slot
abbrev pub OutsideLength : Spot → ℕ → Type 0
OutsideLength (spots.Flash slot) i = Outside slot.start LENGTH_SIZE i
OutsideLength (spots.Ram component) i = Unit {0}
