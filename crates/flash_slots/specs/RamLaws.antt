-- Laws of contents in working memory.
use Rattle.std.specs.Prelude.{◌≡◌, ◌≢◌, ◌<◌, ℕ, List, length, slice_index_or}
use Rattle.flash_layout.specs.declared.layout.Entry.{Entry}
use Rattle.flash_slots.specs.RamContents.{Held, IsRamOf, empty_ram, held_by, holding, ram_capacity}

pub record RamLaws : Type 0 where
  -- room that was made for a layout fits its components, whatever it holds
  pub made : (layout : List Entry) → IsRamOf layout (empty_ram layout)
  pub stays : (layout : List Entry) (ram : List Held) (i : ℕ) (content : List ℕ)
      → IsRamOf layout ram → IsRamOf layout (holding ram i content)
  pub few : (layout : List Entry) (ram : List Held) → IsRamOf layout ram
      → length ram ≡ length layout
  pub room : (layout : List Entry) (ram : List Held) (i : ℕ) (d : Entry) → IsRamOf layout ram
      → i < length layout → (held_by ram i).capacity ≡ ram_capacity (slice_index_or layout i d)
  -- a component holds what it was given, and the others what they held
  pub itself : (ram : List Held) (i : ℕ) (content : List ℕ) → i < length ram
      → (held_by (holding ram i content) i).content ≡ content
  pub others : (ram : List Held) (i j : ℕ) (content : List ℕ) → i ≢ j
      → held_by (holding ram i content) j ≡ held_by ram j
