-- A content that is replaced, in the images that a power loss on the way may leave.
use Rattle.std.specs.Prelude.{◌≡◌, ◌⊎◌, ℕ, List, Option, Some, None, length}
use Rattle.suit_edge.specs.Flash.{Flash, IsSettled, Now, Passes}
use Rattle.flash_layout.specs.declared.slot.Slot.{Slot}
use Rattle.flash_slots.specs.Contents.{IsEmptyInEach, IsEmptySlot, area_of, pieces_of}
use Rattle.step_machine.specs.declared.spot.Spot.{Spot}
use Rattle.step_machine.specs.declared.spot.Spot.TheVariants as spots

-- the room of the slot is as a power loss at the start could have left it
abbrev pub IsRoomBefore : Slot → Flash → List ℕ → Type 0
IsRoomBefore slot start image =
    (from : List ℕ) × Now start from × (area_of slot image ≡ area_of slot from)

-- The slot is empty, or its room is not written yet, or it has all of these bytes. Working memory does not outlive a
-- power loss.
abbrev pub IsEmptyOrWholeAt : Spot → List ℕ → Flash → List ℕ → Type 0
IsEmptyOrWholeAt (spots.Flash slot) bytes start image =
    IsEmptySlot slot image ⊎ IsRoomBefore slot start image
    ⊎ (pieces_of slot (length bytes) image ≡ bytes)
IsEmptyOrWholeAt (spots.Ram component) bytes start image = Unit {0}

-- The same for a file. If there is none, the image is one that a power loss at the start could have left.
abbrev pub IsReplacedBy : Spot → Option (List ℕ) → Flash → List ℕ → Type 0
IsReplacedBy spot None start image = Now start image
IsReplacedBy spot (Some file) start image = IsEmptyOrWholeAt spot file start image

-- each image since the start is like this, for some one file, or for none
pub record IsReplaced (spot : Spot) (Is : Option (List ℕ) → Type 0) (old new : Flash) : Type 0 where
  pub file : Option (List ℕ)
  pub named : Is file
  pub images : Passes old new (IsReplacedBy spot file old)

-- a slot is empty, as the flash reads
abbrev pub IsEmptyAt : Spot → List ℕ → Type 0
IsEmptyAt (spots.Flash slot) image = IsEmptySlot slot image
IsEmptyAt (spots.Ram component) image = Unit {0}

-- a slot is empty in each image that a power loss now may leave
abbrev pub IsEmptyNow : Spot → Flash → Type 0
IsEmptyNow (spots.Flash slot) f = IsEmptyInEach slot f
IsEmptyNow (spots.Ram component) f = Unit {0}

-- if the spot is a slot, no write is pending
abbrev pub IsSettledAt : Spot → Flash → Type 0
IsSettledAt (spots.Flash slot) f = IsSettled f
IsSettledAt (spots.Ram component) f = Unit {0}
