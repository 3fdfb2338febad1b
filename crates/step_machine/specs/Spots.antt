-- Where contents stand, and what they are.
use Rattle.std.specs.Prelude.{◌≡◌, ◌<◌, ℕ, List, length}
use Rattle.flash_layout.specs.Slots.{LiesWithin, extent_of, slot_content}
use Rattle.flash_slots.specs.RamContents.{Held, held_by, holding}
use Rattle.suit_edge.specs.Ranges.{Outside}
use Rattle.step_machine.specs.declared.spot.Spot.{Spot}
use Rattle.step_machine.specs.declared.spot.Spot.TheVariants as spots
use Rattle.step_machine.specs.declared.spot.Standing.{Standing}

-- the content, by what working memory has and what the flash reads
abbrev pub content_of : Spot → List Held → List ℕ → List ℕ
content_of (spots.Flash slot) ram reads = slot_content slot reads
content_of (spots.Ram component) ram reads = (held_by ram component).content

-- the spot is within a flash of this size, or within working memory
abbrev pub IsSpot : ℕ → List Held → Spot → Type 0
IsSpot size ram (spots.Flash slot) = LiesWithin size slot
IsSpot size ram (spots.Ram component) = component < length ram

-- how many bytes the spot has room for
abbrev pub room_at : Spot → List Held → ℕ
room_at (spots.Flash slot) ram = slot.capacity
room_at (spots.Ram component) ram = (held_by ram component).capacity

-- the component's content stands at its spot, which has room for as many bytes as the component says
pub record IsPlaced (size : ℕ) (ram : List Held) (standing : Standing) : Type 0 where
  pub spot : IsSpot size ram standing.spot
  pub capacity : room_at standing.spot ram ≡ standing.capacity

-- ---- what stays when the content at a spot changes

-- the place is outside the slot
abbrev pub OutsideSpot : Spot → ℕ → Type 0
OutsideSpot (spots.Flash slot) i = Outside slot.start (extent_of slot) i
OutsideSpot (spots.Ram component) i = Unit {0}

-- working memory has changed in this component at most
abbrev pub IsRamBut : Spot → List Held → List Held → Type 0
IsRamBut (spots.Flash slot) old new = new ≡ old
IsRamBut (spots.Ram component) old new = (content : List ℕ) × (new ≡ holding old component content)
