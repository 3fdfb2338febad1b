-- The outside of a command: what it finds there, and what it leaves.
use Rattle.std.specs.Prelude.{◌≡◌, ◌≢◌, ◌⊎◌, ◌≤◌, ◌+◌, ℕ, Bool, IsTrue, List, [], ◌∷◌, ◌++◌, take, Option, Some, None}
use Rattle.suit_edge.specs.Faults.{Faulted}

-- the bytes of the files, by their names
abbrev pub Files : Type 0
Files = List ℕ → Option (List ℕ)

-- The flash at a moment: its size, what reads give where it tells, and its count of faults.
pub record Flashed : Type 0 where
  pub told : Bool
  pub size : ℕ
  pub reads : List ℕ
  pub faults : ℕ

-- The outside at a moment. Files, the number of bytes that were pulled from them, and the names that were asked for, count
-- where the host tells of them.
pub record Outside : Type 0 where
  pub told : Bool
  pub files : Files
  pub pulled : ℕ
  pub asked : List (List ℕ)
  pub faults : ℕ
  pub flash : Flashed

-- No file changed, and at most so many bytes were pulled. Of names and faults this says nothing.
pub record Quiet (most : ℕ) (before after : Outside) : Type 0 where
  pub told : after.told ≡ before.told
  pub files : IsTrue before.told → after.files ≡ before.files
  pub pulled : IsTrue before.told → after.pulled ≤ before.pulled + most

-- these names were asked for, in their order, after all others
abbrev pub Asks : List (List ℕ) → Outside → Outside → Type 0
Asks names before after = IsTrue before.told → after.asked ≡ before.asked ++ names

-- the first few of these names were asked for, and no other
abbrev pub AsksFirst : List (List ℕ) → Outside → Outside → Type 0
AsksFirst names before after =
    IsTrue before.told → (n : ℕ) × (after.asked ≡ before.asked ++ take n names)

-- this name was asked for, or no name was, because a fault came first
abbrev pub MayAsk : List ℕ → Outside → Outside → Type 0
MayAsk name before after =
    IsTrue before.told → (after.asked ≡ before.asked) ⊎ (after.asked ≡ before.asked ++ name ∷ [])

-- at most so much was pulled of the file with that name, and no fault was counted
pub record Reads (most : ℕ) (name : List ℕ) (before after : Outside) : Type 0 where
  pub quiet : Quiet most before after
  pub asks : Asks (name ∷ []) before after
  pub faults : after.faults ≡ before.faults
  pub flash : after.flash ≡ before.flash

-- the host counted a fault at that file
pub record ReadsInVain (most : ℕ) (name : List ℕ) (before after : Outside) : Type 0 where
  pub quiet : Quiet most before after
  pub asks : MayAsk name before after
  pub faulted : Faulted before.faults after.faults
  pub flash : after.flash ≡ before.flash

-- ---- a file that is stored

-- nothing changed but the file with this name, and perhaps the count of faults
pub record LeavesOthers (name : List ℕ) (before after : Outside) : Type 0 where
  pub told : after.told ≡ before.told
  pub others : IsTrue before.told → (other : List ℕ) → other ≢ name
      → after.files other ≡ before.files other
  pub pulled : IsTrue before.told → after.pulled ≡ before.pulled
  pub asked : IsTrue before.told → after.asked ≡ before.asked
  pub flash : after.flash ≡ before.flash

-- the file has these bytes, and no fault was counted
pub record Stores (name bytes : List ℕ) (before after : Outside) : Type 0 where
  pub beside : LeavesOthers name before after
  pub file : IsTrue before.told → after.files name ≡ Some bytes
  pub faults : after.faults ≡ before.faults

-- the host counted a fault, and nothing is known of that file
pub record StoresInVain (name : List ℕ) (before after : Outside) : Type 0 where
  pub beside : LeavesOthers name before after
  pub faulted : Faulted before.faults after.faults

-- ---- the files that are left

-- all files are as they were, or all but the one with this name
abbrev pub FilesStay : Option (List ℕ) → Files → Files → Type 0
FilesStay None before after = after ≡ before
FilesStay (Some name) before after = (other : List ℕ) → other ≢ name → after other ≡ before other

-- the files are left so, and at most so many bytes were pulled
pub record Leaves (most : ℕ) (stored : Option (List ℕ)) (before after : Outside) : Type 0 where
  pub told : after.told ≡ before.told
  pub files : IsTrue before.told → FilesStay stored before.files after.files
  pub pulled : IsTrue before.told → after.pulled ≤ before.pulled + most

-- ---- the flash

-- the outside with another flash
abbrev pub with_flash : Outside → Flashed → Outside
with_flash here flash = record here { flash = flash }

-- the flash keeps its size and reads as before
pub record IsStill (before after : Flashed) : Type 0 where
  pub told : after.told ≡ before.told
  pub size : after.size ≡ before.size
  pub reads : IsTrue before.told → after.reads ≡ before.reads

-- nothing changed but that the flash was looked at, and no fault was counted
pub record Looks (before after : Outside) : Type 0 where
  pub beside : after ≡ with_flash before after.flash
  pub still : IsStill before.flash after.flash
  pub faults : after.flash.faults ≡ before.flash.faults

-- the flash was looked at, and counted a fault
pub record LooksInVain (before after : Outside) : Type 0 where
  pub beside : after ≡ with_flash before after.flash
  pub still : IsStill before.flash after.flash
  pub faulted : Faulted before.flash.faults after.flash.faults

-- only the flash was written: it keeps its size, and these hold of its count of faults and of what it reads
pub record Writes (Counts : ℕ → ℕ → Type 0) (Is : Flashed → Flashed → Type 0)
    (before after : Outside) : Type 0 where
  pub beside : after ≡ with_flash before after.flash
  pub told : after.flash.told ≡ before.flash.told
  pub size : after.flash.size ≡ before.flash.size
  pub counts : Counts before.flash.faults after.flash.faults
  pub is : Is before.flash after.flash

-- the sink at a moment: the bytes that were put, where it tells of them
pub record Sunk : Type 0 where
  pub told : Bool
  pub put : List ℕ
  pub faults : ℕ
