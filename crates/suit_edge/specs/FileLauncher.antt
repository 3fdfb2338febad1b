-- Writing an image into a file.
use Rattle.std.specs.Prelude.{◌≡◌, ℕ}
use Rattle.suit_edge.specs.declared.launcher.Launched.{Launched}
use Rattle.suit_edge.specs.declared.launcher.Launched.TheVariants as launched
use Rattle.suit_edge.specs.Faults.{Faulted}

-- the disk's count rises if the disk fails, and stays otherwise
abbrev pub StepCounts : Launched → ℕ → ℕ → Type 0
StepCounts launched.Done before now = now ≡ before
StepCounts launched.DiskFailed before now = Faulted before now
StepCounts launched.Failed before now = now ≡ before
