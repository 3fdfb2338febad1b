-- NOR flash whose power fails after a number of calls.
use Rattle.std.specs.Prelude.{◌≡◌, ◌⊎◌, ◌+◌, ℕ}
use Rattle.suit_edge.specs.declared.edge.Edge.{Edge}
use Rattle.suit_edge.specs.declared.edge.Edge.TheVariants as edge
use Rattle.suit_edge.specs.Faults.{counted}
use Rattle.suit_edge.specs.FuseDisk.{counts_answer}
use Rattle.nor_flash.specs.MemoryNor.{NorState}

-- the device, the number of calls that it still serves, the count of failed calls, and the number of
-- attempted erases
pub record FuseState : Type 0 where
  pub nor : NorState
  pub passes : ℕ
  pub faults : ℕ
  pub erases : ℕ

-- the power is gone: the call fails, and the device stays as it is
pub record IsBlown (answer : Edge) (before now : FuseState) : Type 0 where
  pub spent : before.passes ≡ 0
  pub fails : answer ≡ edge.Failed
  pub still : now.passes ≡ 0
  pub stays : now.nor ≡ before.nor
  pub faults : now.faults ≡ counted before.faults

-- the device serves the call, with this answer and this effect
pub record IsPassedOn (answer : Edge) (before now : FuseState)
    (Does : NorState → NorState → Type 0) : Type 0 where
  pub passes : before.passes ≡ now.passes + 1
  pub does : Does before.nor now.nor
  pub faults : now.faults ≡ counts_answer answer before.faults

-- the power is gone, or the device serves the call
abbrev pub BurnsExactly : Edge → FuseState → FuseState → (NorState → NorState → Type 0) → Type 0
BurnsExactly answer before now Does = IsBlown answer before now ⊎ IsPassedOn answer before now Does
