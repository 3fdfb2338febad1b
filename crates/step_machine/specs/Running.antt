-- What a part of a procedure does to a device, from one moment to a later one.
use Rattle.std.specs.Prelude.{◌≡◌, ◌⊎◌, ◌<◌, ◌-◌, ℕ, Bool, IsTrue, List, [], ◌∷◌, ◌++◌, Option, Some, Result, Ok, Err, length, map}
use Rattle.std.specs.List.{AllByRecursion, range_with_len}
use Rattle.suit_edge.specs.Flash.{Grows, Keeps}
use Rattle.suit_edge.specs.declared.launch.Launch.{Launch}
use Rattle.suit_params.specs.InForce.{Parameters, bytes_of, in_force, number_of}
use Rattle.suit_params.specs.declared.param.ParamKey.TheVariants as keys
use Rattle.step_machine.specs.Programs.{program_tree}
use Rattle.suit_commands.specs.Targets.{InSome, Sources}
use Rattle.path_model.specs.Behaviour.{State}
use Rattle.path_model.specs.Settings.{Setting}
use Rattle.path_model.specs.Plays.{Play}
use Rattle.path_model.specs.DevicePlays.{Device, Launched}
use Rattle.path_model.specs.declared.cause.Cause.{Cause}
use Rattle.flash_slots.specs.RamContents.{Held}
use Rattle.step_machine.specs.declared.stop.Stop.{Stop}
use Rattle.step_machine.specs.declared.stop.Stop.TheVariants as stops
use Rattle.step_machine.specs.declared.spot.Standing.{Standing}
use Rattle.step_machine.specs.declared.machine.Machine.{Machine}
use Rattle.step_machine.specs.declared.machine.Work.{Work}
use Rattle.step_machine.specs.declared.progress.Progress.{Progress}
use Rattle.step_machine.specs.declared.progress.Selected.{Selected}
use Rattle.step_machine.specs.declared.progress.Selected.TheVariants as selected
use Rattle.step_machine.specs.Allowing.{MayFetch, MaySet}
use Rattle.step_machine.specs.Comes.{Comes}
use Rattle.step_machine.specs.Devices.{contents_of}
use Rattle.step_machine.specs.Invoking.{launched_as}
use Rattle.step_machine.specs.PlanRuns.{Counts, counts_of, CountsFor, OutsideTargets}
use Rattle.step_machine.specs.Steps.{DiskAt}
use Rattle.step_machine.specs.Fetching.{AreGiven, ArePayloads, AreRequests, Asked, AsksAmong, Request, names_of}
use Rattle.step_machine.specs.Worlds.{AreStandings, StandAtMost}

-- ---- a moment

-- a host at a moment
pub record HostAt : Type 0 where
  pub told : Bool
  pub files : List ℕ → Option (List ℕ)
  pub asked : Asked
  pub faults : ℕ

-- a launcher at a moment
pub record LauncherAt : Type 0 where
  pub told : Bool
  pub launches : List Launch
  pub faults : ℕ

-- the objects that a procedure works with, at a moment
pub record Moment : Type 1 where
  pub host : HostAt
  pub disk : DiskAt
  pub launcher : LauncherAt
  pub ram : List Held

abbrev pub moment : HostAt → DiskAt → LauncherAt → List Held → Moment
moment host disk launcher ram = record { host = host; disk = disk; launcher = launcher; ram = ram }

abbrev pub counts_at : Moment → Counts
counts_at m = counts_of m.host.faults m.disk.faults m.launcher.faults

-- the launches of a play so far, and the names that it has asked for
pub record Past : Type 0 where
  pub launches : List Launched
  pub asked : List (List ℕ)

-- the device of a play after these launches and requests
abbrev pub device_at : Machine → Moment → Past → Device
device_at machine m past = record {
  contents = contents_of machine.standings.now m.ram m.disk.flash.reads;
  launches = past.launches;
  asked = past.asked;
}

-- the launches of a part, and its requests to the host
pub record Gained : Type 0 where
  pub launches : List Launch
  pub requests : List Request

-- what a play has launched and asked for after a part
abbrev pub followed : Past → Gained → Past
followed past more = record {
  launches = past.launches ++ map launched_as more.launches;
  asked = past.asked ++ names_of more.requests;
}

-- ---- the state of a running sequence

abbrev pub selected_list : Selected → List ℕ
selected_list (selected.One component) = component ∷ []
selected_list (selected.Range first end) = range_with_len first (end - first)
selected_list (selected.Listed list) = list

abbrev pub state_of : Progress → State
state_of progress = record {
  parameters = progress.params;
  selection = selected_list progress.selected;
  soft_failure = progress.soft_failure;
}

-- Each source in force is one of the components, and one that the procedure names. Each URI in force is one that it
-- sets.
pub record AreSources (machine : Machine) (parameters : Parameters) : Type 0 where
  pub components : (component source : ℕ) → component < 8
      → number_of (in_force parameters component keys.Source) ≡ Some source
      → (source < length machine.standings.now)
      × InSome (program_tree machine.program.now) (λ s. Sources s source)
  pub uris : (component : ℕ) (uri : List ℕ) → component < 8
      → bytes_of (in_force parameters component keys.Uri) ≡ Some uri
      → MaySet machine uri

-- the sources in force and the selected components are components of the procedure
pub record IsUnderWay (machine : Machine) (state : State) : Type 0 where
  pub sources : AreSources machine state.parameters
  pub selection : AllByRecursion (λ c. c < length machine.standings.now) state.selection

-- the components are within this flash and this working memory
pub record IsReady (machine : Machine) (size : ℕ) (ram : List Held) : Type 0 where
  pub standings : AreStandings size ram machine.standings.now
  pub count : machine.program.now.count ≡ length machine.standings.now

-- the references are still those that were lent; the host is left alone if no URI has the name of a file, or if the
-- procedure has no fetch
pub record LeavesWork {H D L : Type 0} (machine : Machine) (before after : Work H D L) : Type 0 where
  pub unasked : machine.uris.now ≡ [] → after.host.now ≡ before.host.now
  pub unfetched : (MayFetch machine → ⊥) → after.host.now ≡ before.host.now
  pub host : after.host.ghost_name ≡ before.host.ghost_name
  pub disk : after.disk.ghost_name ≡ before.disk.ghost_name
  pub launcher : after.launcher.ghost_name ≡ before.launcher.ghost_name
  pub ram : after.ram.ghost_name ≡ before.ram.ghost_name
  pub pieces : after.pieces.ghost_name ≡ before.pieces.ghost_name

-- ---- from a moment to a later one

-- the files are known: the host tells them, or no URI has the name of a file, so that the host is left alone
abbrev pub AreFilesKnown : Machine → Moment → Type 0
AreFilesKnown machine at = IsTrue at.host.told ⊎ (machine.uris.now ≡ [])

-- what stays however the part ends, if it leaves these places alone
pub record StaysOn (Left : ℕ → Type 0) (machine : Machine) (before after : Moment) : Type 0 where
  pub host : after.host.told ≡ before.host.told
  pub disk : after.disk.told ≡ before.disk.told
  pub launcher : after.launcher.told ≡ before.launcher.told
  pub size : after.disk.size ≡ before.disk.size
  pub rooms :
      map (λ (held : Held). held.capacity) after.ram
      ≡ map (λ (held : Held). held.capacity) before.ram
  pub files : AreFilesKnown machine before → after.host.files ≡ before.host.files
  pub asks : IsTrue before.host.told → (room : ℕ) → StandAtMost machine.standings.now room
      → AsksAmong (program_tree machine.program.now) machine.uris.now room before.host.asked
      after.host.asked
  pub keeps : IsTrue before.disk.told → Keeps Left before.disk.flash after.disk.flash
  pub grows : IsTrue before.disk.told → Grows before.disk.flash after.disk.flash

-- the place is outside the slots that the procedure may write
abbrev pub OutsideWritten : Machine → ℕ → Type 0
OutsideWritten machine =
    OutsideTargets (program_tree machine.program.now) machine.standings.now

-- what stays however the part ends, outside the slots that the procedure may write
abbrev pub Stays : Machine → Moment → Moment → Type 0
Stays machine before after = StaysOn (OutsideWritten machine) machine before after

-- if a fault stopped the part, the count of faults rose of the object that failed
abbrev pub StopCounts : Result (Unit {0}) Stop → Counts → Counts → Type 0
StopCounts (Ok _) before now = now ≡ before
StopCounts (Err (stops.Condition place soft_failure)) before now = now ≡ before
StopCounts (Err (stops.Directive place cause)) before now = CountsFor cause before now

-- the setting is that of the machine
pub record Fits (machine : Machine) (setting : Setting) : Type 0 where
  pub identities : setting.identities ≡ map (λ (s : Standing). s.identity) machine.standings.now
  pub capacities : setting.capacities ≡ map (λ (s : Standing). s.capacity) machine.standings.now
  pub payloads : ArePayloads machine.envelope setting.payloads
  pub words : setting.words ≡ machine.uris.now

-- the play of a part, in each setting
abbrev pub Part : Type 1
Part = Setting → Play Device

-- The launches and requests from one moment to a later one. In each setting that gives the requests what they were
-- given, the play comes to the same.
pub record Goes (machine : Machine) (part : Part) (state : State) (before : Moment)
    (result : Result (Unit {0}) Stop) (next : State) (after : Moment) : Type 0 where
  pub more : Gained
  pub launches : after.launcher.launches ≡ before.launcher.launches ++ more.launches
  pub requests :
      AreRequests before.host.told machine.uris.now before.host.files before.host.asked.names
      after.host.asked.names more.requests
  pub comes : (setting : Setting) → Fits machine setting → (past : Past)
      → AreGiven setting.files (length past.asked) more.requests
      → Comes (part setting) state (device_at machine before past) result next
      (device_at machine after (followed past more))

-- a part ran with this result, from one moment to a later one
pub record RunsPart (machine : Machine) (part : Part) (state : State) (before : Moment)
    (result : Result (Unit {0}) Stop) (next : State) (after : Moment) : Type 0 where
  pub stays : Stays machine before after
  pub counts : StopCounts result (counts_at before) (counts_at after)
  pub sources : AreSources machine next.parameters
  pub goes : IsTrue before.disk.told → IsTrue before.launcher.told
      → Goes machine part state before result next after

-- ---- a directive that stopped

abbrev pub stopped : ℕ → Result (Unit {0}) Cause → Result (Unit {0}) Stop
stopped place (Ok u) = Ok u
stopped place (Err cause) = Err (stops.Directive place cause)
