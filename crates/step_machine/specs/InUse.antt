-- Which slot of each component is in use.
use Rattle.std.specs.Prelude.{◌≡◌, ◌<◌, ◌≤◌, ◌==◌, ◌&&◌, ℕ, List, length, slice_index, slice_index_or, if◌then◌else◌}
use Rattle.flash_layout.specs.declared.frame.TheConstants.{MOST_ENTRIES}
use Rattle.flash_layout.specs.declared.layout.Entry.{Entry}

-- the slot with this number if the component has two slots, or else its first
abbrev pub slot_in_use : Entry → ℕ → ℕ
slot_in_use e number = if (number == 1) && (e.slots == 2) then 1 else 0

-- each component of the layout has its slot in use, and after the last there are zeros
pub record AreInUse (layout : List Entry) (active numbers : List ℕ) : Type 0 where
  pub size : length numbers ≡ MOST_ENTRIES
  pub each : (i : ℕ) (d : Entry) → i < length layout
      → slice_index numbers i ≡ slot_in_use (slice_index_or layout i d) (slice_index active i)
  pub rest : (i : ℕ) → length layout ≤ i → slice_index numbers i ≡ 0
