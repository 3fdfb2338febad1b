-- The images that a power loss may leave of a disk in memory, given the writes since the last sync.
use Rattle.std.specs.Prelude.{◌↔◌, ◌∷◌, ◌++◌, ℕ, List, map}
use Rattle.suit_edge.specs.declared.step.Write.{Write}
use Rattle.suit_edge.specs.declared.step.Step.{Step}
use Rattle.suit_edge.specs.declared.step.Step.TheVariants as step
use Rattle.suit_edge.specs.Ranges.{AreBytes, SameOn}
use Rattle.suit_edge.specs.Flash.{Now}
use Rattle.suit_edge.specs.Moment.{OutsideAll}
use Rattle.suit_edge.specs.MemoryDisk.{flash_of}

-- A power loss leaves exactly the images of the disk's size that, outside the ranges of these writes, hold
-- what reads return. Inside the ranges they hold any bytes.
abbrev pub Leaves : List ℕ → List Step → List Write → Type 0
Leaves first steps writes = AreBytes (flash_of first steps).reads
    → (image : List ℕ) → Now (flash_of first steps) image ↔ (SameOn (OutsideAll writes) (flash_of first steps).reads image × AreBytes image)

pub record LossLaw : Type 0 where
  pub since_sync : (first : List ℕ) (before : List Step) (writes : List Write)
      → Leaves first (before ++ step.Synced ∷ map (λ w. step.Wrote w) writes) writes
  pub since_start : (first : List ℕ) (writes : List Write)
      → Leaves first (map (λ w. step.Wrote w) writes) writes
