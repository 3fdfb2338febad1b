-- Contents in working memory: for each component of a layout, how many bytes it may hold there and which it
-- holds.
use Rattle.std.specs.Prelude.{◌≡◌, ◌<◌, ◌≤◌, ◌+◌, ℕ, List, [], ◌++◌, length, map, take, slice_index_or, slice_set, Result, Ok, Err}
use Rattle.flash_layout.specs.declared.layout.Entry.{Entry}
use Rattle.flash_layout.specs.declared.layout.Memory.{Memory}
use Rattle.flash_layout.specs.declared.layout.Memory.TheVariants as memory
use Rattle.flash_slots.specs.declared.area.TooLarge.{TooLarge}

pub record Held : Type 0 where
  pub capacity : ℕ
  pub content : List ℕ

abbrev pub capacity_in : Memory → ℕ → ℕ
capacity_in memory.Flash capacity = 0
capacity_in memory.Ram capacity = capacity

-- a component in flash holds nothing in working memory
abbrev pub ram_capacity : Entry → ℕ
ram_capacity e = capacity_in e.memory e.capacity

abbrev pub empty : ℕ → Held
empty capacity = record { capacity = capacity; content = [] }

-- each content is empty
abbrev pub empty_ram : List Entry → List Held
empty_ram layout = map (λ e. empty (ram_capacity e)) layout

-- the room was made for this layout, whatever it holds now
abbrev pub IsRamOf : List Entry → List Held → Type 0
IsRamOf layout ram = map (λ held. held.capacity) ram ≡ map ram_capacity layout

-- the room and the content of a component
abbrev pub held_by : List Held → ℕ → Held
held_by ram component = slice_index_or ram component (empty 0)

-- the component holds this content, and all others hold what they held
abbrev pub holding : List Held → ℕ → List ℕ → List Held
holding ram component content =
    slice_set ram component
    (record { capacity = (held_by ram component).capacity; content = content })

-- If they fit, the bytes are appended to the content. Otherwise nothing changes.
abbrev pub Appends : Held → List ℕ → Held → Result (Unit {0}) TooLarge → Type 0
Appends old piece new (Ok _) =
    (length old.content + length piece ≤ old.capacity)
    × (new ≡ record { capacity = old.capacity; content = old.content ++ piece })
Appends old piece new (Err e) =
    (old.capacity < length old.content + length piece) × (e.capacity ≡ old.capacity) × (new ≡ old)

-- the same for a component of the memory
abbrev pub AppendsTo : List Held → ℕ → List ℕ → List Held → Result (Unit {0}) TooLarge → Type 0
AppendsTo old component piece new (Ok _) =
    (length (held_by old component).content + length piece ≤ (held_by old component).capacity)
    × (new ≡ holding old component ((held_by old component).content ++ piece))
AppendsTo old component piece new (Err e) =
    ((held_by old component).capacity < length (held_by old component).content + length piece)
    × (e.capacity ≡ (held_by old component).capacity) × (new ≡ old)

-- The content has this many bytes, and begins with the old ones. The room stays as large as it was.
pub record Stretches (old : Held) (size : ℕ) (new : Held) : Type 0 where
  pub capacity : new.capacity ≡ old.capacity
  pub long : length new.content ≡ size
  pub front : take (length old.content) new.content ≡ old.content
