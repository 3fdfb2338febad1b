-- The result of a directive for a component, as plays have it.
use Rattle.std.specs.Prelude.{◌≡◌, ◌<◌, ℕ, List, Some, length, Result, Ok, Err}
use Rattle.suit_edge.specs.Faults.{Faulted}
use Rattle.suit_params.specs.InForce.{Parameters}
use Rattle.suit_commands.specs.declared.kinds.ActKind.{ActKind}
use Rattle.path_model.specs.declared.cause.Cause.{Cause}
use Rattle.path_model.specs.declared.cause.Cause.TheVariants as causes
use Rattle.path_model.specs.Behaviour.{State, Done, Directive}
use Rattle.path_model.specs.Settings.{Setting, capacity_of}
use Rattle.path_model.specs.Plays.{Outcome, Play}
use Rattle.path_model.specs.DevicePlays.{Device, content_at, with_content, directive_play}

-- the outcome stops at this place, for this cause, and leaves this world
pub record Stops {World : Type 0} (place : ℕ) (cause : Cause) (after : World)
    (outcome : Outcome World) : Type 0 where
  pub ending : outcome.ending ≡ Directive place
  pub named : outcome.cause ≡ Some cause
  pub world : outcome.world ≡ after

-- a fault may cut the play at this place, for this cause, and leave this world
pub record IsCutSo {World : Type 0} (play : Play World) (place : ℕ) (state : State) (before : World)
    (cause : Cause) (after : World) : Type 0 where
  pub outcome : Outcome World
  pub cut : play.IsCut state before outcome
  pub stops : Stops place cause after outcome

-- the play stops at this place for this cause: a fault cuts it, or it stops by itself
abbrev pub StopsSo : {World : Type 0} → Play World → ℕ → State → World → Cause → World → Type 0
StopsSo play place state before causes.HostFault after =
    IsCutSo play place state before causes.HostFault after
StopsSo play place state before causes.FlashFault after =
    IsCutSo play place state before causes.FlashFault after
StopsSo play place state before causes.LaunchFault after =
    IsCutSo play place state before causes.LaunchFault after
StopsSo play place state before cause after = Stops place cause after (play.comes state before)

-- the play of a directive is done, or it stops by itself or by a fault
abbrev pub ActsSo : Play Device → ℕ → State → Device → Result (Unit {0}) Cause → Device → Type 0
ActsSo play place state before (Ok _) after =
    ((play.comes state before).ending ≡ Done state) × ((play.comes state before).world ≡ after)
ActsSo play place state before (Err cause) after = StopsSo play place state before cause after

-- the play of the directive has this result, in each setting and on each device where the component has this room, one
-- content before and the other after
abbrev pub WritesAs : ActKind → ℕ → ℕ → Parameters → List ℕ → List ℕ → Result (Unit {0}) Cause
    → Type 0
WritesAs kind component capacity parameters before after result =
    (setting : Setting) (place : ℕ) (state : State) (device : Device)
    → state.parameters ≡ parameters → capacity_of setting component ≡ capacity
    → content_at device component ≡ before
    → component < length device.contents
    → ActsSo (directive_play setting kind place component) place state device result
    (with_content device component after)

-- the flash's count of faults rose if the flash failed, and stayed if not; no other object has a fault
abbrev pub CauseCounts : Result (Unit {0}) Cause → ℕ → ℕ → Type 0
CauseCounts (Err causes.FlashFault) before now = Faulted before now
CauseCounts (Err causes.HostFault) before now = ⊥
CauseCounts (Err causes.LaunchFault) before now = ⊥
CauseCounts _ before now = now ≡ before
