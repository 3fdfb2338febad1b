-- Whether a range of a disk holds given bytes.
use Rattle.std.specs.Prelude.{◌≡◌, ◌≢◌, ℕ, List}
use Rattle.suit_edge.specs.Faults.{Faulted}
use Rattle.flash_view.specs.declared.standing.Stood.{Stood}
use Rattle.flash_view.specs.declared.standing.Stood.TheVariants as stood

-- what the answer says of the bytes and of those that were read
abbrev pub IsStood : Stood → List ℕ → List ℕ → Type 0
IsStood stood.Same bytes read = read ≡ bytes
IsStood stood.Differs bytes read = read ≢ bytes
IsStood stood.DiskFailed bytes read = Unit {0}

-- the disk's count rises if the disk fails, and stays otherwise
abbrev pub StoodCounts : Stood → ℕ → ℕ → Type 0
StoodCounts stood.Same before now = now ≡ before
StoodCounts stood.Differs before now = now ≡ before
StoodCounts stood.DiskFailed before now = Faulted before now
