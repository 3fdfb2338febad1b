-- Which slot each component stands for in an update. These definitions are this project's own.
use Rattle.std.specs.Prelude.{◌≡◌, ◌⊎◌, ◌<◌, ◌-◌, ℕ, List, get_or, length, replicate, slice_index, Option, Some, None}
use Rattle.suit_commands.specs.Tree.{PlanTree}
use Rattle.suit_commands.specs.Bits.{HasBit}
use Rattle.suit_commands.specs.Targets.{IsTarget}
use Rattle.flash_layout.specs.declared.frame.TheConstants.{MOST_ENTRIES}
use Rattle.flash_layout.specs.declared.layout.Entry.{Entry}
use Rattle.flash_layout.specs.declared.layout.Memory.TheVariants as memory
use Rattle.flash_layout.specs.declared.place.Places.{Places}
use Rattle.flash_layout.specs.declared.slot.Record.{Record}
use Rattle.flash_layout.specs.declared.slot.Slot.{Slot}
use Rattle.flash_layout.specs.Slots.{slot_at}

-- the slot of each component of the layout that is in use, or the first ones if there is no record
abbrev pub active_slots : Option Record → List ℕ
active_slots None = replicate MOST_ENTRIES 0
active_slots (Some r) = r.active

-- ---- components of the layout

-- some component that the procedure may write has this index in the layout
pub record IsWritten (tree : PlanTree) (places : Places) (i : ℕ) : Type 0 where
  pub component : ℕ
  pub few : component < places.count
  pub target : IsTarget tree component
  pub there : slice_index places.layout_index component ≡ i

-- some component of the set has this index in the layout
pub record HasWritten (places : Places) (bits i : ℕ) : Type 0 where
  pub component : ℕ
  pub few : component < places.count
  pub member : HasBit bits component
  pub there : slice_index places.layout_index component ≡ i

-- the component has another slot beside the one in use
abbrev pub HasOther : List Entry → ℕ → Type 0
HasOther layout i = (i < length layout) × ((e : Entry) → (get_or layout i e).slots ≡ 2)

-- A component that may be written stands for its other slot, if it has one. All others stand for the slot in use.
pub record AreChosen (layout : List Entry) (places : Places) (tree : PlanTree)
    (active numbers : List ℕ) : Type 0 where
  pub size : length numbers ≡ MOST_ENTRIES
  pub other : (i : ℕ) → IsWritten tree places i → HasOther layout i
      → slice_index numbers i ≡ 1 - slice_index active i
  pub same : (i : ℕ) → (IsWritten tree places i × HasOther layout i → ⊥)
      → slice_index numbers i ≡ slice_index active i
  pub either : (i : ℕ)
      → (slice_index numbers i ≡ slice_index active i)
      ⊎ (HasOther layout i × (slice_index numbers i ≡ 1 - slice_index active i))

-- ---- slots

-- this is the slot with that number, of a component on the flash
pub record IsSlotOf (layout : List Entry) (i n : ℕ) (slot : Slot) : Type 0 where
  pub inside : i < length layout
  pub flash : (e : Entry) → (get_or layout i e).memory ≡ memory.Flash
  pub number : (e : Entry) → n < (get_or layout i e).slots
  pub is : (e : Entry)
      → slot ≡ slot_at (get_or layout i e) (slice_index (get_or layout i e).starts n)

-- a component that may be written stands for this slot
pub record IsTouched (layout : List Entry) (places : Places) (tree : PlanTree) (numbers : List ℕ)
    (slot : Slot) : Type 0 where
  pub index : ℕ
  pub written : IsWritten tree places index
  pub stands : IsSlotOf layout index (slice_index numbers index) slot

-- this slot is in use
pub record IsInUse (layout : List Entry) (active : List ℕ) (slot : Slot) : Type 0 where
  pub index : ℕ
  pub stands : IsSlotOf layout index (slice_index active index) slot

-- each component on the flash that may be written has two slots
abbrev pub HaveTwoSlots : List Entry → Places → PlanTree → Type 0
HaveTwoSlots layout places tree =
    (i : ℕ) (e : Entry) → IsWritten tree places i → (get_or layout i e).memory ≡ memory.Flash
    → (get_or layout i e).slots ≡ 2
