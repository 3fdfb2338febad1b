-- The result of an invoke for a component, as plays have it.
use Rattle.std.specs.Prelude.{◌≡◌, ◌≤◌, ℕ, List, [], ◌∷◌, ◌++◌, true, Result, Ok, Err}
use Rattle.std.specs.Option.{option_and_then}
use Rattle.suit_edge.specs.declared.launch.Launch.{Launch}
use Rattle.suit_edge.specs.declared.launcher.Image.{Image}
use Rattle.suit_edge.specs.declared.launcher.Launched.{Launched as Answer}
use Rattle.suit_edge.specs.declared.launcher.Launched.TheVariants as answers
use Rattle.suit_edge.specs.Faults.{Faulted}
use Rattle.suit_edge.specs.Launch.{AreImage}
use Rattle.suit_params.specs.DigestBytes.{as_digest}
use Rattle.suit_params.specs.InForce.{Parameters}
use Rattle.suit_commands.specs.declared.kinds.ActKind.TheVariants as acts
use Rattle.path_model.specs.declared.cause.Cause.{Cause}
use Rattle.path_model.specs.declared.cause.Cause.TheVariants as causes
use Rattle.path_model.specs.Behaviour.{State, Done}
use Rattle.path_model.specs.Settings.{Setting}
use Rattle.path_model.specs.Plays.{Play}
use Rattle.path_model.specs.DevicePlays.{Launched, Device, content_at, directive_play}
use Rattle.step_machine.specs.Directives.{StopsSo}

-- the image has these bytes, on a flash that tells what it reads
abbrev pub IsImageOf : List ℕ → List ℕ → Image → Type 0
IsImageOf reads content image = (bytes : List ℕ) → AreImage image true reads bytes → bytes ≡ content

-- the result of an invoke, by the answer of the launcher
abbrev pub result_of : Answer → Result (Unit {0}) Cause
result_of answers.Done = Ok tt
result_of answers.DiskFailed = Err causes.FlashFault
result_of answers.Failed = Err causes.LaunchFault

-- a launch as plays have it
abbrev pub launched_as : Launch → Launched
launched_as launch = record {
  component = launch.component;
  bytes = launch.bytes;
  digest = option_and_then as_digest launch.digest;
  size = launch.size;
  args = launch.args;
}

-- the play of the invoke has this result, in each setting and on each device where the component has this content
abbrev pub OnEachDevice : ℕ → Parameters → List ℕ → (Play Device → ℕ → State → Device → Type 0)
    → Type 0
OnEachDevice component parameters content Comes =
    (setting : Setting) (place : ℕ) (state : State) (device : Device)
    → state.parameters ≡ parameters → content_at device component ≡ content
    → Comes (directive_play setting acts.Invoke place component) place state device

-- if the invoke is done, one launch is added, which is that of the play; if not, none is added, and the play stops for
-- the same cause
abbrev pub InvokesAs : ℕ → Parameters → List ℕ → List Launch → List Launch → Result (Unit {0}) Cause
    → Type 0
InvokesAs component parameters content before now (Ok _) =
    (launch : Launch) × (now ≡ before ++ launch ∷ [])
    ×
    OnEachDevice component parameters content
    (λ play place state device. ((play.comes state device).ending ≡ Done state)
    × ((play.comes state device).world
    ≡ record device { launches = device.launches ++ launched_as launch ∷ [] }))
InvokesAs component parameters content before now (Err cause) =
    (now ≡ before)
    × OnEachDevice component parameters content
    (λ play place state device. StopsSo play place state device cause device)

-- the count of faults rose of the launcher or the flash, if that failed
abbrev pub InvokeCounts : Result (Unit {0}) Cause → ℕ → ℕ → ℕ → ℕ → Type 0
InvokeCounts (Ok _) before now disk_before disk_now = (now ≡ before) × (disk_now ≡ disk_before)
InvokeCounts (Err causes.LaunchFault) before now disk_before disk_now =
    Faulted before now × (disk_before ≤ disk_now)
InvokeCounts (Err causes.FlashFault) before now disk_before disk_now =
    (before ≤ now) × Faulted disk_before disk_now
InvokeCounts (Err _) before now disk_before disk_now = ⊥
