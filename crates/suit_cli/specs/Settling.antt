-- When a command leaves the flash settled.
use Rattle.std.specs.Prelude.{ℕ}
use Rattle.suit_edge.specs.Faults.{Faulted}
use Rattle.suit_edge.specs.Flash.{Flash}
use Rattle.rollback_record.specs.SoundFlash.{Settled}
use Rattle.suit_cli.specs.Coming.{KeepsSound, PassesAny, StaysSound}

-- a settled flash is settled again at the end, unless it counted a fault
abbrev pub StaysSettled : Flash → Flash → ℕ → ℕ → Type 0
StaysSettled old new before now =
    Settled old → (Faulted before now → ⊥) → Settled new

-- Each image on the way is sound and goes on from what reads gave at the start. At the end the flash is settled, unless it
-- counted a fault.
pub record LeavesSound (old new : Flash) (before now : ℕ) : Type 0 where
  pub stays : StaysSound old new
  pub settled : (Faulted before now → ⊥) → Settled new

-- inside: how a run of calls leaves a flash, at each moment and at the end
pub record StaysInOrder (old new : Flash) (before now : ℕ) : Type 0 where
  pub any_moment : PassesAny old new
  pub sound : KeepsSound old new
  pub settled : StaysSettled old new before now
