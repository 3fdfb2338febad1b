-- The components of a procedure on a device, by its layout and by the slots that they stand for.
use Rattle.std.specs.Prelude.{◌≡◌, ◌≢◌, ◌<◌, ◌≤◌, ℕ, List, length, get_or, slice_index}
use Rattle.flash_layout.specs.declared.frame.TheConstants.{MOST_ENTRIES}
use Rattle.flash_layout.specs.declared.layout.Entry.{Entry}
use Rattle.flash_layout.specs.declared.layout.Memory.{Memory}
use Rattle.flash_layout.specs.declared.layout.Memory.TheVariants as memory
use Rattle.flash_layout.specs.declared.place.Places.{Places}
use Rattle.flash_layout.specs.Slots.{slot_at}
use Rattle.flash_slots.specs.RamContents.{Held}
use Rattle.step_machine.specs.declared.spot.Spot.{Spot}
use Rattle.step_machine.specs.declared.spot.Spot.TheVariants as spots
use Rattle.step_machine.specs.declared.spot.Standing.{Standing}
use Rattle.step_machine.specs.declared.world.SlotChoice.{SlotChoice}
use Rattle.step_machine.specs.Spots.{IsSpot, room_at}
use Rattle.step_machine.specs.Devices.{IsApart}

-- ---- by the layout

-- where the content stands: in the slot with that number, or in working memory
abbrev pub spot_of : Memory → Entry → ℕ → ℕ → Spot
spot_of memory.Flash entry index number =
    spots.Flash (slot_at entry (slice_index entry.starts number))
spot_of memory.Ram entry index number = spots.Ram index

-- a component of the manifest that has this entry at that index of the layout, and stands for the slot with that number
abbrev pub standing_of : Entry → ℕ → ℕ → ℕ → Standing
standing_of entry component index number = record {
  component = component;
  identity =
      record { vendor = entry.vendor; class = entry.class; device = entry.device; slot = number };
  capacity = entry.capacity;
  spot = spot_of entry.memory entry index number;
}

-- each component of the manifest stands for the chosen slot of its entry in the layout
pub record StandAs (layout : List Entry) (places : Places) (slots : SlotChoice)
    (standings : List Standing) : Type 0 where
  pub count : length standings ≡ places.count
  pub each : (k : ℕ) (d : Standing) (e : Entry) → k < places.count
      → let index = slice_index places.layout_index k in
      get_or standings k d
      ≡ standing_of (get_or layout index e) k index (slice_index slots.number index)

-- the list of starts has two entries, for each of the first components
abbrev pub HaveTwo : List Entry → Places → ℕ → Type 0
HaveTwo layout places count =
    (k : ℕ) (e : Entry) → k < count
    → length (get_or layout (slice_index places.layout_index k) e).starts ≡ 2

-- ---- requirements on places and slots

-- different components have different places, all of them in the layout
pub record AreDistinct (layout : List Entry) (places : Places) : Type 0 where
  pub few : places.count ≤ 8
  pub inside : (k : ℕ) → k < places.count → slice_index places.layout_index k < length layout
  pub other : (j k : ℕ) → j < k → k < places.count
      → slice_index places.layout_index j ≢ slice_index places.layout_index k

-- each component of the layout stands for one of its slots, of which there are at most two; after the last there are
-- zeros
pub record IsChoice (layout : List Entry) (slots : SlotChoice) : Type 0 where
  pub few : length layout ≤ MOST_ENTRIES
  pub one : (i : ℕ) (e : Entry) → i < length layout
      → slice_index slots.number i < (get_or layout i e).slots
  pub two : (i : ℕ) (e : Entry) → i < length layout → (get_or layout i e).slots ≤ 2
  pub rest : (i : ℕ) → length layout ≤ i → slice_index slots.number i ≡ 0

-- ---- what a procedure needs

-- the component has that index, and room within a flash of that size or within working memory
pub record IsStandingAt (size : ℕ) (ram : List Held) (index : ℕ) (standing : Standing)
    : Type 0 where
  pub component : standing.component ≡ index
  pub spot : IsSpot size ram standing.spot
  pub room : room_at standing.spot ram ≡ standing.capacity

-- no component of the layout has room for more bytes than this
abbrev pub HaveAtMost : List Entry → ℕ → Type 0
HaveAtMost layout room =
    (i : ℕ) (e : Entry) → i < length layout → (get_or layout i e).capacity ≤ room

-- no component of the procedure has room for more bytes than this
abbrev pub StandAtMost : List Standing → ℕ → Type 0
StandAtMost standings room =
    (k : ℕ) (d : Standing) → k < length standings → (get_or standings k d).capacity ≤ room

-- there are at most eight components, each with its index and room, and their contents share no byte
pub record AreStandings (size : ℕ) (ram : List Held) (standings : List Standing) : Type 0 where
  pub few : length standings ≤ 8
  pub each : (k : ℕ) (d : Standing) → k < length standings
      → IsStandingAt size ram k (get_or standings k d)
  pub apart : (k : ℕ) → k < length standings → IsApart standings k
