-- A disk whose power fails after a number of calls.
use Rattle.std.specs.Prelude.{◌≡◌, ◌⊎◌, ◌+◌, ℕ}
use Rattle.suit_edge.specs.declared.edge.Edge.{Edge}
use Rattle.suit_edge.specs.declared.edge.Edge.TheVariants as edge
use Rattle.suit_edge.specs.Faults.{counted}
use Rattle.suit_edge.specs.MemoryDisk.{DiskState}

-- the disk, the number of calls that it still serves, and the count of failed calls
pub record FuseState : Type 0 where
  pub disk : DiskState
  pub passes : ℕ
  pub faults : ℕ

-- the power is gone: the call fails, and the disk stays as it is
pub record IsBlown (answer : Edge) (before now : FuseState) : Type 0 where
  pub spent : before.passes ≡ 0
  pub fails : answer ≡ edge.Failed
  pub stays : now ≡ record before { faults = counted before.faults }

-- the count after this answer
abbrev pub counts_answer : Edge → ℕ → ℕ
counts_answer edge.Done n = n
counts_answer edge.Failed n = counted n

-- the disk serves the call, with this answer and this effect
pub record IsPassedOn (answer : Edge) (before now : FuseState)
    (Does : DiskState → DiskState → Type 0) : Type 0 where
  pub passes : before.passes ≡ now.passes + 1
  pub does : Does before.disk now.disk
  pub faults : now.faults ≡ counts_answer answer before.faults

-- the power is gone, or the disk serves the call
abbrev pub BurnsExactly : Edge → FuseState → FuseState → (DiskState → DiskState → Type 0) → Type 0
BurnsExactly answer before now Does = IsBlown answer before now ⊎ IsPassedOn answer before now Does
