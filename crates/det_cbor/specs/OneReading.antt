-- The law of reading: any bytes begin with exactly one item or have exactly one first fault, and never both.
use Rattle.std.specs.Prelude.{◌≡◌, ◌≤◌, ◌⊎◌, ℕ, List, ◌++◌, length, take}
use Rattle.std.specs.List.{AllByRecursion}
use Rattle.det_cbor.specs.declared.reason.Reason.{Reason}
use Rattle.det_cbor.specs.DataItem.{DataItem, IsByte, Spells}
use Rattle.det_cbor.specs.Faults.{Faulty}

-- the bytes are the spelling of an item
abbrev pub IsItem : List ℕ → Type 0
IsItem bytes = (x : DataItem) × Spells x bytes

-- the first `used` bytes spell the item
pub record StartsWithItem (bytes : List ℕ) (x : DataItem) (used : ℕ) : Type 0 where
  pub spells : Spells x (take used bytes)
  pub within : used ≤ length bytes

-- whatever follows these bytes, they are the item at the front
abbrev pub ReadsBack : DataItem → List ℕ → Type 0
ReadsBack x bytes = (rest : List ℕ) → StartsWithItem (bytes ++ rest) x (length bytes)

-- exactly one prefix spells an item, and only that item, and the bytes are not faulty
pub record HasOneItem (bytes : List ℕ) : Type 0 where
  pub item : DataItem
  pub used : ℕ
  pub starts : StartsWithItem bytes item used
  pub only : (x : DataItem) (n : ℕ) → StartsWithItem bytes x n → (x ≡ item) × (n ≡ used)
  pub sound : (place : ℕ) (reason : Reason) → Faulty 0 bytes place reason → ⊥

-- the bytes are faulty at exactly one place, for exactly one reason, and no prefix spells an item
pub record HasOneFault (bytes : List ℕ) : Type 0 where
  pub place : ℕ
  pub reason : Reason
  pub faulty : Faulty 0 bytes place reason
  pub only : (p : ℕ) (r : Reason) → Faulty 0 bytes p r → (p ≡ place) × (r ≡ reason)
  pub empty : (x : DataItem) (n : ℕ) → StartsWithItem bytes x n → ⊥

abbrev pub OneReading : Type 0
OneReading = (bytes : List ℕ) → AllByRecursion IsByte bytes → HasOneItem bytes ⊎ HasOneFault bytes
