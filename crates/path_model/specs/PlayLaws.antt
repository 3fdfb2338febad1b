-- Laws of plays on the contents of a device.
use Rattle.std.specs.Prelude.{◌≡◌, ℕ, List, ◌++◌, Option, Some, None, length}
use Rattle.std.specs.List.{AllByRecursion}
use Rattle.suit_params.specs.Hashes.{hash_like}
use Rattle.suit_params.specs.declared.digest.Digest.{Digest}
use Rattle.suit_commands.specs.Tree.{PlanTree}
use Rattle.path_model.specs.Path.{AreIdentities, RunsPlan, Path, first_state}
use Rattle.path_model.specs.Safe.{Safe}
use Rattle.path_model.specs.declared.cause.Cause.{Cause}
use Rattle.path_model.specs.declared.cause.Cause.TheVariants as causes
use Rattle.path_model.specs.Behaviour.{Ending, Done, Condition, Directive}
use Rattle.path_model.specs.Settings.{Setting, NamesFile}
use Rattle.path_model.specs.Plays.{Outcome}
use Rattle.path_model.specs.DevicePlays.{Device, Launched, played, IsFaulted}

-- a play is a whole run of its procedure
abbrev pub PlayRuns : Type 0
PlayRuns =
    (plan : PlanTree) (setting : Setting) (contents : List (List ℕ)) → let outcome = played plan setting contents in
    RunsPlan plan setting.identities first_state outcome.events outcome.ending

-- the events of a play that a fault cut short are a path
abbrev pub FaultedIsPath : Type 0
FaultedIsPath =
    (plan : PlanTree) (setting : Setting) (contents : List (List ℕ)) (outcome : Outcome Device)
    → IsFaulted plan setting contents outcome → Path plan setting.identities outcome.events

-- the launches before the fault are the first ones of the whole play
abbrev pub FaultedLaunchesFirst : Type 0
FaultedLaunchesFirst =
    (plan : PlanTree) (setting : Setting) (contents : List (List ℕ)) (outcome : Outcome Device)
    → IsFaulted plan setting contents outcome
    → (rest : List Launched) × ((played plan setting contents).world.launches ≡ outcome.world.launches ++ rest)

-- the names that the host was asked for before the fault are the first ones of the whole play
abbrev pub FaultedAsksFirst : Type 0
FaultedAsksFirst =
    (plan : PlanTree) (setting : Setting) (contents : List (List ℕ)) (outcome : Outcome Device)
    → IsFaulted plan setting contents outcome
    → (rest : List (List ℕ)) × ((played plan setting contents).world.asked ≡ outcome.world.asked ++ rest)

-- the launch has the digest that was in force, and the size if one was
pub record HasItsDigest (launch : Launched) : Type 0 where
  pub digest : Digest
  pub named : launch.digest ≡ Some digest
  pub has : hash_like digest launch.bytes ≡ digest
  pub size : (size : ℕ) → launch.size ≡ Some size → length launch.bytes ≡ size

-- each launch of a safe procedure has its digest
abbrev pub SafeLaunches : Type 0
SafeLaunches =
    (plan : PlanTree) (setting : Setting) (contents : List (List ℕ)) → Safe plan → AreIdentities plan setting.identities
    → AllByRecursion HasItsDigest (played plan setting contents).world.launches

-- the same holds if a fault cut the play short
abbrev pub FaultedSafeLaunches : Type 0
FaultedSafeLaunches =
    (plan : PlanTree) (setting : Setting) (contents : List (List ℕ)) (outcome : Outcome Device)
    → IsFaulted plan setting contents outcome → Safe plan → AreIdentities plan setting.identities
    → AllByRecursion HasItsDigest outcome.world.launches

-- ---- how plays end

-- a fault of the outside
abbrev pub IsFault : Cause → Type 0
IsFault causes.HostFault = Unit {0}
IsFault causes.FlashFault = Unit {0}
IsFault causes.LaunchFault = Unit {0}
IsFault _ = ⊥

-- a directive that failed has a cause, which is no fault; no other ending has a cause
abbrev pub EndsSo : Ending → Option Cause → Type 0
EndsSo (Done state) cause = cause ≡ None
EndsSo (Condition place soft_failure) cause = cause ≡ None
EndsSo (Directive place) cause = (why : Cause) × (IsFault why → ⊥) × (cause ≡ Some why)

-- each play ends like this
abbrev pub PlayEnds : Type 0
PlayEnds =
    (plan : PlanTree) (setting : Setting) (contents : List (List ℕ)) → let outcome = played plan setting contents in
    EndsSo outcome.ending outcome.cause

-- a fault that may come in this setting: one of the host only if some URI names a file
abbrev pub IsFaultIn : Setting → Cause → Type 0
IsFaultIn setting causes.HostFault = (uri : List ℕ) × NamesFile setting.words uri
IsFaultIn setting causes.FlashFault = Unit {0}
IsFaultIn setting causes.LaunchFault = Unit {0}
IsFaultIn setting _ = ⊥

-- a play that a fault cut short ends at some place, by that fault
pub record EndsByFault (setting : Setting) (ending : Ending) (cause : Option Cause) : Type 0 where
  pub place : ℕ
  pub why : Cause
  pub fault : IsFaultIn setting why
  pub ends : ending ≡ Directive place
  pub named : cause ≡ Some why

-- each play that a fault cut short ends like this
abbrev pub FaultedEnds : Type 0
FaultedEnds =
    (plan : PlanTree) (setting : Setting) (contents : List (List ℕ)) (outcome : Outcome Device)
    → IsFaulted plan setting contents outcome → EndsByFault setting outcome.ending outcome.cause
