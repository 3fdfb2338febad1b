-- A flash at a moment, and what calls do to it.
use Rattle.std.specs.Prelude.{◌≡◌, ℕ, Bool, IsTrue}
use Rattle.suit_edge.specs.Flash.{Flash, Grows, IsSame}

-- a flash at a moment
pub record DiskAt : Type 1 where
  pub told : Bool
  pub size : ℕ
  pub flash : Flash
  pub faults : ℕ

abbrev pub disk_at : Bool → ℕ → Flash → ℕ → DiskAt
disk_at told size flash faults =
    record { told = told; size = size; flash = flash; faults = faults }

-- the flash was only read, and its count of faults went from before to after as the relation says
pub record IsOnlyRead (Counts : ℕ → ℕ → Type 0) (before after : DiskAt) : Type 0 where
  pub size : after.size ≡ before.size
  pub counts : Counts before.faults after.faults
  pub same : IsTrue before.told → IsSame before.flash after.flash
  pub grows : IsTrue before.told → Grows before.flash after.flash

-- the flash keeps its size and the images of past moments, and its count of faults went from before to after as the
-- relation says
pub record GoesOn (Counts : ℕ → ℕ → Type 0) (before after : DiskAt) : Type 0 where
  pub size : after.size ≡ before.size
  pub counts : Counts before.faults after.faults
  pub grows : IsTrue before.told → Grows before.flash after.flash
