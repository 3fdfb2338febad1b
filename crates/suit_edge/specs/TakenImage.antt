-- Copying the bytes of an image.
use Rattle.std.specs.Prelude.{◌≡◌, ℕ, Bool, List}
use Rattle.suit_edge.specs.declared.launcher.Image.{Image}
use Rattle.suit_edge.specs.declared.memory_launcher.TakenImage.{TakenImage}
use Rattle.suit_edge.specs.declared.memory_launcher.TakenImage.TheVariants as taken
use Rattle.suit_edge.specs.Faults.{Faulted}
use Rattle.suit_edge.specs.Launch.{AreImage}

abbrev pub TakesImage : TakenImage → Image → Bool → List ℕ → Type 0
TakesImage (taken.Got bytes) what told reads = AreImage what told reads bytes
TakesImage taken.DiskFailed what told reads = Unit {0}
TakesImage taken.NoMemory what told reads = Unit {0}

-- the disk's count rises if the disk fails, and stays otherwise
abbrev pub TakeCounts : TakenImage → ℕ → ℕ → Type 0
TakeCounts (taken.Got bytes) before now = now ≡ before
TakeCounts taken.DiskFailed before now = Faulted before now
TakeCounts taken.NoMemory before now = now ≡ before
