-- Laws of inner sequences, paths and identities.
use Rattle.std.specs.Prelude.{◌≡◌, ◌↔◌, ◌<◌, ◌^◌, ℕ, List, ◌++◌, length, get_or, Some, slice_get}
use Rattle.path_model.specs.declared.identity.Identity.{Identity}
use Rattle.path_model.specs.declared.event.Event.{Event}
use Rattle.suit_commands.specs.Tree.{CommandTree, TryEach, RunSequence, PlanTree}
use Rattle.path_model.specs.Behaviour.{State, Ending, Done, Condition, Directive}
use Rattle.path_model.specs.Runs.{Does}
use Rattle.path_model.specs.Path.{AreIdentities, Path}

-- ---- try each and run sequence

-- the command is a try each or a run sequence
abbrev pub HasInner : CommandTree → Type 0
HasInner (TryEach _) = Unit {0}
HasInner (RunSequence _) = Unit {0}
HasInner _ = ⊥

-- the selection and soft failure are those of the outer sequence
abbrev pub IsOuter : State → Ending → Type 0
IsOuter outer (Done state) = (state.selection ≡ outer.selection) × (state.soft_failure ≡ outer.soft_failure)
IsOuter outer (Condition place soft_failure) = soft_failure ≡ outer.soft_failure
IsOuter outer (Directive place) = Unit {0}

-- after a try each or a run sequence, the selection and soft failure are restored
abbrev pub InnerGoesBack : Type 0
InnerGoesBack =
    (command : CommandTree) (identities : List Identity) (count place : ℕ) (state : State) (events : List Event) (ending : Ending)
    → HasInner command → Does command identities count place state events ending → IsOuter state ending

-- ---- paths

-- the beginning of a path is a path
abbrev pub PathsBegin : Type 0
PathsBegin = (plan : PlanTree) (identities : List Identity) (front rest : List Event) → Path plan identities (front ++ rest) → Path plan identities front

-- ---- identities

-- the list has sixteen bytes
abbrev pub IsSixteenBytes : List ℕ → Type 0
IsSixteenBytes id = (length id ≡ 16) × ((i : ℕ) → get_or id i 0 < 256)

-- the bounds of a component's identity
pub record IsBounded (identity : Identity) : Type 0 where
  pub slot : identity.slot < 2 ^ 64
  pub vendor : (id : List ℕ) → identity.vendor ≡ Some id → IsSixteenBytes id
  pub class : (id : List ℕ) → identity.class ≡ Some id → IsSixteenBytes id
  pub device : (id : List ℕ) → identity.device ≡ Some id → IsSixteenBytes id

-- there is one identity for each component, within these bounds
pub record IdentitiesAre (plan : PlanTree) (identities : List Identity) : Type 0 where
  pub count : length identities ≡ plan.count
  pub each : (component : ℕ) (identity : Identity) → slice_get identities component ≡ Some identity
      → IsBounded identity

-- the identities are just the lists with one for each component, within these bounds
abbrev pub IdentitiesBounded : Type 0
IdentitiesBounded = (plan : PlanTree) (identities : List Identity) → AreIdentities plan identities ↔ IdentitiesAre plan identities
