-- Conditions and directives on the contents of a device, which decide each free step
-- (draft-ietf-suit-manifest-25, sections 8.4.9 and 8.4.10, and this project's own choices).
use Rattle.std.specs.Prelude.{◌≡◌, ◌≤◌, ℕ, ◌==◌, nat_le, if◌then◌else◌, ◌&&◌, ◌⊎◌, Bool, true, false, List, [], ◌∷◌, ◌++◌, Option, Some, None, IsSome, get_or, length, slice_get, slice_set}
use Rattle.std.specs.Str.{bytes_eq}
use Rattle.suit_params.specs.Hashes.{has_digest}
use Rattle.suit_params.specs.declared.digest.Digest.{Digest}
use Rattle.suit_params.specs.declared.param.ParamKey.{ParamKey}
use Rattle.suit_params.specs.declared.param.ParamKey.TheVariants as keys
use Rattle.suit_params.specs.InForce.{Parameters, in_force, identifier_of, number_of, bytes_of, digest_in, size_in}
use Rattle.suit_commands.specs.declared.kinds.TestKind.{TestKind}
use Rattle.suit_commands.specs.declared.kinds.TestKind.TheVariants as tests
use Rattle.suit_commands.specs.declared.kinds.ActKind.{ActKind}
use Rattle.suit_commands.specs.declared.kinds.ActKind.TheVariants as acts
use Rattle.suit_commands.specs.Tree.{PlanTree}
use Rattle.path_model.specs.declared.identity.Identity.{Identity}
use Rattle.path_model.specs.declared.event.Event.{Event}
use Rattle.path_model.specs.declared.event.Event.TheVariants.{Tried, Matched, Missed, Wrote, Failed}
use Rattle.path_model.specs.declared.cause.Cause.{Cause}
use Rattle.path_model.specs.declared.cause.Cause.TheVariants as causes
use Rattle.path_model.specs.Behaviour.{State, Done, Condition, Directive}
use Rattle.path_model.specs.Conditions.{vendor_of, class_of, device_of, slot_of}
use Rattle.path_model.specs.Directives.{invoke_event}
use Rattle.path_model.specs.Path.{first_state}
use Rattle.path_model.specs.Settings.{Setting, asked_by, capacity_of, payload_of, NamesFile}
use Rattle.path_model.specs.Plays.{Outcome, Play, procedure}

-- a launch: the component, its content, and what the parameters in force give for it
pub record Launched : Type 0 where
  pub component : ℕ
  pub bytes : List ℕ
  pub digest : Option Digest
  pub size : Option ℕ
  pub args : Option (List ℕ)

-- a device: the content of each component, what was launched, and the names of files that the host was asked for, in
-- order
pub record Device : Type 0 where
  pub contents : List (List ℕ)
  pub launches : List Launched
  pub asked : List (List ℕ)

abbrev pub content_at : Device → ℕ → List ℕ
content_at device component = get_or device.contents component []

abbrev pub with_content : Device → ℕ → List ℕ → Device
with_content device component bytes =
    record device { contents = slice_set device.contents component bytes }

-- ---- conditions

-- a condition with one event if it passes, and another one if it fails
abbrev pub tested : ℕ → Event → Event → State → Device → Bool → Outcome Device
tested place passed failed state device true =
    record { events = passed ∷ []; ending = Done state; cause = None; world = device }
tested place passed failed state device false = record {
  events = failed ∷ Failed place ∷ [];
  ending = Condition place state.soft_failure;
  cause = None;
  world = device;
}

-- a condition that reads a content ends at once if the flash fails, without an event
abbrev pub unread : ℕ → Device → Outcome Device
unread place device =
    record { events = []; ending = Directive place; cause = Some causes.FlashFault; world = device }

-- a condition that reads no content
abbrev pub comparing : ℕ → TestKind → ℕ → (State → Bool) → Play Device
comparing place kind component holds = record {
  comes = λ state device.
      tested place (Tried component kind true) (Tried component kind false) state device
      (holds state);
  IsCut = λ state device outcome. ⊥;
}

abbrev pub same_identifier : Option (List ℕ) → Option (List ℕ) → Bool
same_identifier (Some wanted) (Some own) = bytes_eq own wanted
same_identifier _ _ = false

-- compares an identifier of the identity with the one in force under this key
abbrev pub comparing_identifier : TestKind → ParamKey → (Option Identity → Option (List ℕ)) → Setting → ℕ → ℕ
    → Play Device
comparing_identifier kind key own_of setting place component =
    comparing place kind component (λ state. same_identifier
    (identifier_of (in_force state.parameters component key))
    (own_of (slice_get setting.identities component)))

abbrev pub same_number : Option ℕ → Option ℕ → Bool
same_number (Some wanted) (Some own) = own == wanted
same_number _ _ = false

-- if no size is in force, every content fits
abbrev pub fits_size : Option ℕ → List ℕ → Bool
fits_size None content = true
fits_size (Some size) content = length content == size

-- the content has the digest, and the size if one is given
abbrev pub is_image : Digest → Option ℕ → List ℕ → Bool
is_image digest size content = has_digest digest content && fits_size size content

-- an image match, under the digest in force, if there is one
abbrev pub matched : ℕ → ℕ → Option ℕ → State → Device → Option Digest → Outcome Device
matched place component size state device None =
    tested place (Missed component) (Missed component) state device false
matched place component size state device (Some digest) =
    tested place (Matched component digest size) (Missed component) state device
    (is_image digest size (content_at device component))

-- image match, which reads the content only if a digest is in force
abbrev pub matching : ℕ → ℕ → Play Device
matching place component = record {
  comes = λ state device.
      matched place component (size_in state.parameters component) state device
      (digest_in state.parameters component);
  IsCut =
      λ state device outcome. IsSome (digest_in state.parameters component)
      × (outcome ≡ unread place device);
}

-- a content is in force, and this is it
abbrev pub is_content : Option (List ℕ) → List ℕ → Bool
is_content None content = false
is_content (Some wanted) content = bytes_eq content wanted

-- check content, which reads the content only if its parameter is in force
abbrev pub checking : ℕ → ℕ → Play Device
checking place component = record {
  comes = λ state device.
      tested place (Tried component tests.CheckContent true)
      (Tried component tests.CheckContent false) state device
      (is_content (bytes_of (in_force state.parameters component keys.Content)) (content_at device component));
  IsCut = λ state device outcome.
      IsSome (bytes_of (in_force state.parameters component keys.Content))
      × (outcome ≡ unread place device);
}

-- each condition, on the contents of a device
abbrev pub condition_play : Setting → TestKind → ℕ → ℕ → Play Device
condition_play setting tests.Vendor place component =
    comparing_identifier tests.Vendor keys.Vendor vendor_of setting place component
condition_play setting tests.Class place component =
    comparing_identifier tests.Class keys.Class class_of setting place component
condition_play setting tests.Device place component =
    comparing_identifier tests.Device keys.Device device_of setting place component
condition_play setting tests.Slot place component =
    comparing place tests.Slot component (λ state. same_number
    (number_of (in_force state.parameters component keys.Slot))
    (slot_of (slice_get setting.identities component)))
condition_play setting tests.ImageMatch place component = matching place component
condition_play setting tests.CheckContent place component = checking place component
condition_play setting tests.Abort place component =
    comparing place tests.Abort component (λ state. false)

-- ---- directives

-- what a directive makes of the device, or why it failed and what it leaves
pub data Change : Type 0 where
  Made : (device : Device) → Change
  Refused : (cause : Cause) (device : Device) → Change

-- how a directive with these events ends, by what it makes of the device
abbrev pub concluded : ℕ → List Event → State → Change → Outcome Device
concluded place events state (Made device) =
    record { events = events; ending = Done state; cause = None; world = device }
concluded place events state (Refused cause device) = record {
  events = events ++ Failed place ∷ [];
  ending = Directive place;
  cause = Some cause;
  world = device;
}

-- the content is replaced with these bytes, if there is room for them
abbrev pub filled : Setting → ℕ → List ℕ → Device → Change
filled setting component bytes device =
    if nat_le (length bytes) (capacity_of setting component)
    then Made (with_content device component bytes)
    else Refused causes.TooLarge device

-- the host was asked for the file that the URI names, if it names one
abbrev pub asking : Setting → List ℕ → Device → Device
asking setting uri device =
    record device { asked = device.asked ++ asked_by setting.words uri }

-- a payload that is too large leaves the content empty
abbrev pub fetched : Setting → ℕ → Option (List ℕ) → Device → Change
fetched setting component None device = Refused causes.Absent device
fetched setting component (Some bytes) device =
    if nat_le (length bytes) (capacity_of setting component)
    then Made (with_content device component bytes)
    else Refused causes.TooLarge (with_content device component [])

-- the fetch of a URI; the host is asked first
abbrev pub fetching : Setting → ℕ → List ℕ → Device → Change
fetching setting component uri device =
    fetched setting component (payload_of setting (length device.asked) uri)
    (asking setting uri device)

-- the content is replaced with that of the source, which has to be another component
abbrev pub copied : Setting → ℕ → ℕ → Device → Change
copied setting component source device =
    if source == component then Refused causes.SelfCopy device
    else filled setting component (content_at device source) device

-- the content of one component fits into the other one
abbrev pub fits_into : Setting → Device → ℕ → ℕ → Bool
fits_into setting device component other =
    nat_le (length (content_at device component)) (capacity_of setting other)

-- the two contents are exchanged, if each fits and the source is another component
abbrev pub swapped : Setting → ℕ → ℕ → Device → Change
swapped setting component source device =
    if source == component then Refused causes.SelfCopy device
    else if fits_into setting device source component && fits_into setting device component source
    then Made
    (with_content (with_content device component (content_at device source)) source
    (content_at device component))
    else Refused causes.TooLarge device

-- a directive that takes a parameter fails without it
abbrev pub acted : {A : Type 0} → ℕ → (A → List Event) → (A → Device → Change) → State → Device
    → Option A → Outcome Device
acted place told makes state device None = concluded place [] state (Refused causes.Missing device)
acted place told makes state device (Some parameter) =
    concluded place (told parameter) state (makes parameter device)

-- a directive that a fault cuts has the events of a failure
abbrev pub ActIsCut : {A : Type 0} → ℕ → (A → List Event) → (A → Cause → Device → Device → Type 0)
    → State → Device → Outcome Device → Option A → Type 0
ActIsCut place told Leaves state device outcome None = ⊥
ActIsCut place told Leaves state device outcome (Some parameter) =
    (cause : Cause) × (left : Device) × Leaves parameter cause device left
    × (outcome ≡ concluded place (told parameter) state (Refused cause left))

-- a directive that takes a parameter, and may be cut only with it
abbrev pub acting : {A : Type 0} → ℕ → (State → Option A) → (A → List Event) → (A → Device → Change)
    → (A → Cause → Device → Device → Type 0) → Play Device
acting place wanted told makes Leaves = record {
  comes = λ state device. acted place told makes state device (wanted state);
  IsCut = λ state device outcome. ActIsCut place told Leaves state device outcome (wanted state);
}

-- a directive that writes its component alone
abbrev pub writing : {A : Type 0} → ℕ → ℕ → (State → Option A) → (A → Device → Change)
    → (A → Cause → Device → Device → Type 0) → Play Device
writing place component wanted makes Leaves =
    acting place wanted (λ parameter. Wrote component ∷ []) makes Leaves

-- ---- what a fault leaves

-- the component has any content, up to its capacity
abbrev pub HoldsAny : Setting → ℕ → Device → Device → Type 0
HoldsAny setting component before left =
    (bytes : List ℕ) × (length bytes ≤ capacity_of setting component)
    × (left ≡ with_content before component bytes)

-- only a fault of the flash cuts a write or a copy, and it leaves any content
abbrev pub WriteLeaves : Setting → ℕ → Cause → Device → Device → Type 0
WriteLeaves setting component causes.FlashFault before left = HoldsAny setting component before left
WriteLeaves setting component _ before left = ⊥

-- a fault of the host comes only if the URI names a file; it leaves the old content or none, and the host was asked, or
-- could not be
abbrev pub FetchLeaves : Setting → List ℕ → ℕ → Cause → Device → Device → Type 0
FetchLeaves setting uri component causes.HostFault before left =
    NamesFile setting.words uri
    × ((left ≡ before) ⊎ (left ≡ asking setting uri before)
    ⊎ (left ≡ with_content (asking setting uri before) component []))
FetchLeaves setting uri component causes.FlashFault before left =
    HoldsAny setting component (asking setting uri before) left
FetchLeaves setting uri component _ before left = ⊥

-- only a fault of the flash cuts a swap, and it leaves any contents
abbrev pub SwapLeaves : Setting → ℕ → ℕ → Cause → Device → Device → Type 0
SwapLeaves setting component source causes.FlashFault before left =
    (middle : Device) × HoldsAny setting component before middle
    × HoldsAny setting source middle left
SwapLeaves setting component source _ before left = ⊥

-- ---- each directive

-- the launch of a component's content, with the parameters in force
abbrev pub launch_of : Device → ℕ → Parameters → Launched
launch_of device component parameters = record {
  component = component;
  bytes = content_at device component;
  digest = digest_in parameters component;
  size = size_in parameters component;
  args = bytes_of (in_force parameters component keys.Args);
}

-- the device after that launch
abbrev pub launching : Device → ℕ → Parameters → Device
launching device component parameters =
    record device { launches = device.launches ++ launch_of device component parameters ∷ [] }

-- a fault of the flash or of the launcher may cut an invoke
abbrev pub StopsLaunch : Cause → Type 0
StopsLaunch causes.FlashFault = Unit {0}
StopsLaunch causes.LaunchFault = Unit {0}
StopsLaunch _ = ⊥

-- invoke, which is done unless a fault cuts it
abbrev pub invoking : ℕ → ℕ → Play Device
invoking place component = record {
  comes = λ state device.
      concluded place (invoke_event component state.parameters true ∷ []) state
      (Made (launching device component state.parameters));
  IsCut = λ state device outcome. (cause : Cause) × StopsLaunch cause
      ×
      (outcome ≡ concluded place (invoke_event component state.parameters false ∷ []) state (Refused cause device));
}

-- each directive, on the contents of a device
abbrev pub directive_play : Setting → ActKind → ℕ → ℕ → Play Device
directive_play setting acts.Write place component =
    writing place component (λ state. bytes_of (in_force state.parameters component keys.Content))
    (λ content. filled setting component content) (λ content. WriteLeaves setting component)
directive_play setting acts.Fetch place component =
    writing place component (λ state. bytes_of (in_force state.parameters component keys.Uri))
    (λ uri. fetching setting component uri)
    (λ uri. FetchLeaves setting uri component)
directive_play setting acts.Copy place component =
    writing place component (λ state. number_of (in_force state.parameters component keys.Source))
    (λ source. copied setting component source) (λ source. WriteLeaves setting component)
directive_play setting acts.Swap place component =
    acting place (λ state. number_of (in_force state.parameters component keys.Source))
    (λ source. Wrote component ∷ Wrote source ∷ []) (λ source. swapped setting component source)
    (λ source. SwapLeaves setting component source)
directive_play setting acts.Invoke place component = invoking place component

-- ---- procedures

-- the device before the procedure: nothing is launched, and no file is asked for
abbrev pub first_device : List (List ℕ) → Device
first_device contents = record { contents = contents; launches = []; asked = [] }

-- a procedure, on the contents of a device
abbrev pub plan_play : PlanTree → Setting → Play Device
plan_play plan setting =
    procedure Device (condition_play setting) (directive_play setting) plan.count plan

-- the play of a procedure on these contents
abbrev pub played : PlanTree → Setting → List (List ℕ) → Outcome Device
played plan setting contents = (plan_play plan setting).comes first_state (first_device contents)

-- a fault may cut the play of a procedure short like this
abbrev pub IsFaulted : PlanTree → Setting → List (List ℕ) → Outcome Device → Type 0
IsFaulted plan setting contents outcome =
    (plan_play plan setting).IsCut first_state (first_device contents) outcome
