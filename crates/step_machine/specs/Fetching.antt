-- The result of a fetch for a component, as plays have it, and of taking in a file piece by piece.
use Rattle.std.specs.Prelude.{◌≡◌, ◌⊎◌, ◌<◌, ◌≤◌, ◌+◌, ◌*◌, ◌==◌, ℕ, suc, Bool, IsTrue, if◌then◌else◌, List, [], ◌∷◌, ◌++◌, Option, Some, None, Result, Ok, Err, get_or, length, map, take}
use Rattle.std.specs.Borrow.{Bor}
use Rattle.std.specs.List.{AllByRecursion}
use Rattle.std.specs.Option.{option_and_then}
use Rattle.suit_edge.specs.Faults.{Faulted}
use Rattle.suit_edge.specs.Host.{AsksFor}
use Rattle.suit_envelope.specs.Payloads.{HasPayloads}
use Rattle.suit_envelope.specs.declared.envelope.Envelope.{Envelope}
use Rattle.suit_params.specs.declared.param.ParamKey.TheVariants as keys
use Rattle.suit_params.specs.InForce.{Parameters, bytes_of, in_force}
use Rattle.suit_commands.specs.declared.kinds.ActKind.TheVariants as acts
use Rattle.suit_commands.specs.Tree.{PlanTree}
use Rattle.path_model.specs.declared.cause.Cause.{Cause}
use Rattle.path_model.specs.declared.cause.Cause.TheVariants as causes
use Rattle.path_model.specs.Behaviour.{State}
use Rattle.path_model.specs.Settings.{Setting, capacity_of, found_under}
use Rattle.path_model.specs.DevicePlays.{Device, content_at, with_content, directive_play}
use Rattle.step_machine.specs.Directives.{ActsSo}
use Rattle.step_machine.specs.UrisSet.{SetsUri}

-- ---- one piece

-- the next bytes of what is left of a file are at the front of the room; there are none only at the end
pub record IsPiece (n : ℕ) (rest later room : List ℕ) : Type 0 where
  pub is : rest ≡ take n room ++ later
  pub end : n ≡ 0 → rest ≡ []

-- the next piece is given, or more is left of the file than is wanted, or a fault came
abbrev pub GivesPiece : Result ℕ Cause → ℕ → List ℕ → List ℕ → List ℕ → Type 0
GivesPiece (Ok n) wanted rest later room = IsPiece n rest later room
GivesPiece (Err causes.TooLarge) wanted rest later room = wanted < length rest
GivesPiece (Err _) wanted rest later room = Unit {0}

-- the host gave just the piece; if that failed, it gave at most one byte more than is wanted
abbrev pub PullsPiece : Result ℕ Cause → ℕ → ℕ → ℕ → Type 0
PullsPiece (Ok n) wanted before now = now ≡ before + n
PullsPiece (Err _) wanted before now = now ≤ before + (wanted + 1)

-- the host's count of faults rose if it failed, and stayed if not; besides a fault, only the size stops a piece
abbrev pub PieceCounts : Result ℕ Cause → ℕ → ℕ → Type 0
PieceCounts (Ok n) before now = now ≡ before
PieceCounts (Err causes.TooLarge) before now = now ≡ before
PieceCounts (Err causes.HostFault) before now = Faulted before now
PieceCounts (Err _) before now = ⊥

-- ---- a whole file

-- The file became the content. Or it was too large or the host failed, and the content is empty. Or the flash failed,
-- and the content is within the room.
abbrev pub TakesIn : Result (Unit {0}) Cause → ℕ → List ℕ → List ℕ → Type 0
TakesIn (Ok _) capacity file content = (length file ≤ capacity) × (content ≡ file)
TakesIn (Err causes.TooLarge) capacity file content = (capacity < length file) × (content ≡ [])
TakesIn (Err causes.HostFault) capacity file content = content ≡ []
TakesIn (Err causes.FlashFault) capacity file content = length content ≤ capacity
TakesIn (Err _) capacity file content = ⊥

-- the count of faults rose of the host or the flash if that failed, and all others stayed
abbrev pub FetchCounts : Result (Unit {0}) Cause → ℕ → ℕ → ℕ → ℕ → Type 0
FetchCounts (Err causes.HostFault) before now disk_before disk_now =
    Faulted before now × (disk_now ≡ disk_before)
FetchCounts (Err causes.FlashFault) before now disk_before disk_now =
    (now ≡ before) × Faulted disk_before disk_now
FetchCounts (Err causes.LaunchFault) before now disk_before disk_now = ⊥
FetchCounts _ before now disk_before disk_now = (now ≡ before) × (disk_now ≡ disk_before)

-- the whole file was put, or it was too large, or a fault came
abbrev pub PutsIn : Result (Unit {0}) Cause → ℕ → List ℕ → List ℕ → Type 0
PutsIn (Ok _) capacity file put = (length file ≤ capacity) × (put ≡ file)
PutsIn (Err causes.TooLarge) capacity file put = capacity < length file
PutsIn (Err causes.HostFault) capacity file put = Unit {0}
PutsIn (Err causes.FlashFault) capacity file put = Unit {0}
PutsIn (Err _) capacity file put = ⊥

-- why a started file may not be taken in
abbrev pub StopsTaking : Cause → Type 0
StopsTaking causes.TooLarge = Unit {0}
StopsTaking causes.HostFault = Unit {0}
StopsTaking causes.FlashFault = Unit {0}
StopsTaking _ = ⊥

-- some file was taken in; if the host tells, it is the one that was started
pub record TakesSome (told : Bool) (rest : List ℕ) (result : Result (Unit {0}) Cause) (capacity : ℕ)
    (content : List ℕ) : Type 0 where
  pub file : List ℕ
  pub is : IsTrue told → file ≡ rest
  pub takes : TakesIn result capacity file content

-- The named file was taken in. If there is none the content stays, and after a fault of the host it stays or is empty.
abbrev pub TakesNamed : Result (Unit {0}) Cause → ℕ → Option (List ℕ) → List ℕ → List ℕ → Type 0
TakesNamed (Err causes.Absent) capacity named before after = (named ≡ None) × (after ≡ before)
TakesNamed (Err causes.HostFault) capacity named before after = (after ≡ before) ⊎ (after ≡ [])
TakesNamed result capacity named before after =
    (file : List ℕ) × (named ≡ Some file) × TakesIn result capacity file after

-- ---- requests to a host

-- a request to a host: the name of a file, and the bytes given under it, if there is such a file
pub record Request : Type 0 where
  pub name : List ℕ
  pub given : Option (List ℕ)

abbrev pub request : List ℕ → Option (List ℕ) → Request
request name given = record { name = name; given = given }

abbrev pub names_of : List Request → List (List ℕ)
names_of requests = map (λ (r : Request). r.name) requests

-- from this number on, the setting gives its requests what these requests were given
abbrev pub AreGiven : (ℕ → List ℕ → Option (List ℕ)) → ℕ → List Request → Type 0
AreGiven files number [] = Unit {0}
AreGiven files number (r ∷ requests) =
    (files number r.name ≡ r.given) × AreGiven files (suc number) requests

-- The requests to a host from one moment to a later one. If the host tells, these are the names that it was asked for,
-- in order, and it gave its files. If no URI has the name of a file, there are none.
pub record AreRequests (told : Bool) (words : List (List ℕ × List ℕ))
    (files : List ℕ → Option (List ℕ)) (before now : List (List ℕ)) (requests : List Request)
    : Type 0 where
  pub asked : IsTrue told → now ≡ before ++ names_of requests
  pub given : IsTrue told → AllByRecursion (λ (r : Request). r.given ≡ files r.name) requests
  pub none : words ≡ [] → requests ≡ []

-- The file of this name was asked for, and taken in as it was given; or the host failed before that. Without a name
-- nothing was asked for.
abbrev pub TakesOf : Option (List ℕ) → List Request → Result (Unit {0}) Cause → ℕ → List ℕ → List ℕ
    → Type 0
TakesOf None requests result capacity before after =
    (requests ≡ []) × TakesNamed result capacity None before after
TakesOf (Some name) requests result capacity before after =
    ((requests ≡ []) × (result ≡ Err causes.HostFault) × (after ≡ before))
    ⊎ ((given : Option (List ℕ)) × (requests ≡ request name given ∷ [])
    × TakesNamed result capacity given before after)

-- ---- as plays have it

-- the payloads that a procedure may fetch: those of its envelope, or none if it has no envelope
abbrev pub ArePayloads : Option (Bor Envelope) → List (List ℕ × List ℕ) → Type 0
ArePayloads None payloads = payloads ≡ []
ArePayloads (Some envelope) payloads = HasPayloads envelope.now.whole.now payloads

-- what a URI names: a payload if it begins with `#`, and otherwise the file whose name answers it
abbrev pub payload_by : List (List ℕ × List ℕ) → List (List ℕ × List ℕ) → (List ℕ → Option (List ℕ))
    → List ℕ → Option (List ℕ)
payload_by payloads words files uri =
    if get_or uri 0 0 == 35 then found_under payloads uri
    else option_and_then files (found_under words uri)

-- what the URI in force for the component names
abbrev pub file_by : ℕ → Parameters → List (List ℕ × List ℕ) → List (List ℕ × List ℕ)
    → (List ℕ → Option (List ℕ)) → Option (List ℕ)
file_by component parameters payloads words files =
    option_and_then (payload_by payloads words files)
    (bytes_of (in_force parameters component keys.Uri))

-- the device after requests for these names
abbrev pub with_asked : Device → List (List ℕ) → Device
with_asked device names = record device { asked = device.asked ++ names }

-- a fetch: the component, its room, the parameters in force, the payloads that URIs may name, and their names of files
pub record Fetch : Type 0 where
  pub component : ℕ
  pub capacity : ℕ
  pub parameters : Parameters
  pub payloads : List (List ℕ × List ℕ)
  pub words : List (List ℕ × List ℕ)

abbrev pub fetch_of : ℕ → ℕ → Parameters → List (List ℕ × List ℕ) → List (List ℕ × List ℕ) → Fetch
fetch_of component capacity parameters payloads words = record {
  component = component;
  capacity = capacity;
  parameters = parameters;
  payloads = payloads;
  words = words;
}

-- the play of the fetch has this result, in each setting with these payloads and names of files that gives the requests
-- what they were given, and on each device where the component has this room, one content before and the other after
abbrev pub FetchesAs : Fetch → List Request → List ℕ → List ℕ → Result (Unit {0}) Cause → Type 0
FetchesAs fetch requests before after result =
    (setting : Setting) (place : ℕ) (state : State) (device : Device)
    → state.parameters ≡ fetch.parameters → capacity_of setting fetch.component ≡ fetch.capacity
    → setting.payloads ≡ fetch.payloads → setting.words ≡ fetch.words
    → AreGiven setting.files (length device.asked) requests
    → content_at device fetch.component ≡ before → fetch.component < length device.contents
    → ActsSo (directive_play setting acts.Fetch place fetch.component) place state device result
    (with_content (with_asked device (names_of requests)) fetch.component after)

-- ---- calls of the host

-- the name of the file that answers the URI in force for the component
abbrev pub file_named : ℕ → Parameters → List (List ℕ × List ℕ) → Option (List ℕ)
file_named component parameters words =
    option_and_then (found_under words) (bytes_of (in_force parameters component keys.Uri))

-- the names that a host was asked for, and how many bytes were pulled from it
pub record Asked : Type 0 where
  pub names : List (List ℕ)
  pub pulled : ℕ

abbrev pub asked_at : List (List ℕ) → ℕ → Asked
asked_at names pulled = record { names = names; pulled = pulled }

-- nothing was asked for, or the named file was asked for once, and at most this many bytes were pulled from it
abbrev pub AsksAtMost : Option (List ℕ) → ℕ → Asked → Asked → Type 0
AsksAtMost named most before now =
    ((now.names ≡ before.names) × (now.pulled ≡ before.pulled))
    ⊎ ((name : List ℕ) × (named ≡ Some name) × AsksFor name before.names now.names
    × (now.pulled ≤ before.pulled + most))

-- some URI that the procedure sets has this name of a file
abbrev pub IsFileOf : PlanTree → List (List ℕ × List ℕ) → List ℕ → Type 0
IsFileOf plan words name =
    (uri : List ℕ) × SetsUri plan uri × (found_under words uri ≡ Some name)

-- Only files were asked for that URIs of the procedure name. In all, the bytes that were pulled are at most one more
-- than there is room for, for each request.
pub record AsksAmong (plan : PlanTree) (words : List (List ℕ × List ℕ)) (room : ℕ)
    (before now : Asked) : Type 0 where
  pub more : List (List ℕ)
  pub names : now.names ≡ before.names ++ more
  pub among : AllByRecursion (IsFileOf plan words) more
  pub pulled : now.pulled ≤ before.pulled + length more * (room + 1)

-- the host keeps its files, and at most one byte more than this number was pulled
pub record PullsUpTo (told : Bool) (most : ℕ) (earlier later : List ℕ → Option (List ℕ))
    (before now : ℕ) : Type 0 where
  pub files : IsTrue told → later ≡ earlier
  pub pulled : IsTrue told → now ≤ before + (most + 1)
