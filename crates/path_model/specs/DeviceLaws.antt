-- Laws of conditions and directives on contents: when each succeeds, why it fails, and what it leaves
-- (draft-ietf-suit-manifest-25, sections 8.4.9 and 8.4.10, and this project's own choices).
use Rattle.std.specs.Prelude.{◌≡◌, ◌≢◌, ◌↔◌, ◌⊎◌, ◌<◌, ◌≤◌, ℕ, List, [], ◌∷◌, ◌++◌, Option, Some, None, length}
use Rattle.suit_params.specs.Hashes.{hash_like}
use Rattle.suit_params.specs.declared.digest.Digest.{Digest}
use Rattle.suit_params.specs.declared.param.ParamKey.{ParamKey}
use Rattle.suit_params.specs.declared.param.ParamKey.TheVariants as keys
use Rattle.suit_params.specs.InForce.{in_force, number_of, bytes_of, digest_in, size_in}
use Rattle.suit_commands.specs.declared.kinds.TestKind.{TestKind}
use Rattle.suit_commands.specs.declared.kinds.TestKind.TheVariants as tests
use Rattle.suit_commands.specs.declared.kinds.ActKind.{ActKind}
use Rattle.suit_commands.specs.declared.kinds.ActKind.TheVariants as acts
use Rattle.path_model.specs.declared.cause.Cause.{Cause}
use Rattle.path_model.specs.declared.cause.Cause.TheVariants as causes
use Rattle.path_model.specs.Behaviour.{State, Done, Directive}
use Rattle.path_model.specs.Settings.{Setting, asked_by, capacity_of, found_under, payload_of}
use Rattle.path_model.specs.Plays.{Outcome}
use Rattle.path_model.specs.DevicePlays.{Launched, Device, content_at, asking, condition_play, directive_play}

-- ---- conditions

-- the content has the digest in force, and the size if one is in force
pub record HasImage (state : State) (device : Device) (component : ℕ) : Type 0 where
  pub digest : Digest
  pub named : digest_in state.parameters component ≡ Some digest
  pub has : hash_like digest (content_at device component) ≡ digest
  pub size : (size : ℕ) → size_in state.parameters component ≡ Some size
      → length (content_at device component) ≡ size

-- the condition passes in this state, on this device
abbrev pub TestPasses : Setting → TestKind → ℕ → ℕ → State → Device → Type 0
TestPasses setting kind place component state device =
    ((condition_play setting kind place component).comes state device).ending ≡ Done state

-- the flash failed before the content was read
pub record IsUnread (place : ℕ) (device : Device) (outcome : Outcome Device) : Type 0 where
  pub events : outcome.events ≡ []
  pub ending : outcome.ending ≡ Directive place
  pub cause : outcome.cause ≡ Some causes.FlashFault
  pub world : outcome.world ≡ device

-- when conditions on the content pass, and what conditions leave
pub record ConditionRules : Type 0 where
  pub image : (setting : Setting) (place component : ℕ) (state : State) (device : Device)
      → TestPasses setting tests.ImageMatch place component state device ↔ HasImage state device component
  pub content : (setting : Setting) (place component : ℕ) (state : State) (device : Device)
      → TestPasses setting tests.CheckContent place component state device
      ↔ (bytes_of (in_force state.parameters component keys.Content) ≡ Some (content_at device component))
  -- a condition changes nothing
  pub leaves :
      (setting : Setting) (kind : TestKind) (place component : ℕ) (state : State) (device : Device)
      → ((condition_play setting kind place component).comes state device).world ≡ device
  -- if the flash fails in a condition, it has no event and changes nothing
  pub cut :
      (setting : Setting) (kind : TestKind) (place component : ℕ) (state : State) (device : Device)
      (outcome : Outcome Device)
      → (condition_play setting kind place component).IsCut state device outcome → IsUnread place device outcome

-- ---- directives

-- what a directive comes to at one component
abbrev pub acts_at : Setting → ActKind → ℕ → ℕ → State → Device → Outcome Device
acts_at setting kind place component state device = (directive_play setting kind place component).comes state device

-- the bytes in force under this key
abbrev pub content_named : State → ℕ → ParamKey → Option (List ℕ)
content_named state component key = bytes_of (in_force state.parameters component key)

-- the source in force
abbrev pub source_named : State → ℕ → Option ℕ
source_named state component = number_of (in_force state.parameters component keys.Source)

-- the directive fails for this cause, and changes nothing
abbrev pub FailsFor : Outcome Device → Cause → Device → Type 0
FailsFor outcome cause device = (outcome.cause ≡ Some cause) × (outcome.world ≡ device)

-- the component has these bytes, and all else is as it was
pub record Holds (component : ℕ) (bytes : List ℕ) (before after : Device) : Type 0 where
  pub content : component < length before.contents → content_at after component ≡ bytes
  pub others : (other : ℕ) → other ≢ component → content_at after other ≡ content_at before other
  pub launches : after.launches ≡ before.launches
  pub asked : after.asked ≡ before.asked

-- a directive without its parameter fails, and changes nothing
abbrev pub MissingRule : ActKind → (State → ℕ → Type 0) → Type 0
MissingRule kind Lacks =
    (setting : Setting) (place component : ℕ) (state : State) (device : Device)
    → Lacks state component → FailsFor (acts_at setting kind place component state device) causes.Missing device

-- a copy or swap whose source is the component itself fails
abbrev pub ItselfRule : ActKind → Type 0
ItselfRule kind =
    (setting : Setting) (place component : ℕ) (state : State) (device : Device) → source_named state component ≡ Some component
    → FailsFor (acts_at setting kind place component state device) causes.SelfCopy device

-- a write replaces the content with the one in force, if there is room for it
pub record WriteRules : Type 0 where
  pub missing :
      MissingRule acts.Write (λ state component. content_named state component keys.Content ≡ None)
  pub fits :
      (setting : Setting) (place component : ℕ) (state : State) (device : Device) (bytes : List ℕ)
      → content_named state component keys.Content ≡ Some bytes → length bytes ≤ capacity_of setting component
      → let outcome = acts_at setting acts.Write place component state device in
      (outcome.ending ≡ Done state) × Holds component bytes device outcome.world
  pub too_large :
      (setting : Setting) (place component : ℕ) (state : State) (device : Device) (bytes : List ℕ)
      → content_named state component keys.Content ≡ Some bytes → capacity_of setting component < length bytes
      → FailsFor (acts_at setting acts.Write place component state device) causes.TooLarge device

-- The host is asked first, whatever it holds, and the payload is the answer to this request. A payload that is too
-- large leaves the content empty.
pub record FetchRules : Type 0 where
  pub missing :
      MissingRule acts.Fetch (λ state component. content_named state component keys.Uri ≡ None)
  pub absent :
      (setting : Setting) (place component : ℕ) (state : State) (device : Device) (uri : List ℕ)
      → content_named state component keys.Uri ≡ Some uri → payload_of setting (length device.asked) uri ≡ None
      → FailsFor (acts_at setting acts.Fetch place component state device) causes.Absent (asking setting uri device)
  pub fits :
      (setting : Setting) (place component : ℕ) (state : State) (device : Device)
      (uri bytes : List ℕ)
      → content_named state component keys.Uri ≡ Some uri → payload_of setting (length device.asked) uri ≡ Some bytes → length bytes ≤ capacity_of setting component
      → let outcome = acts_at setting acts.Fetch place component state device in
      (outcome.ending ≡ Done state) × Holds component bytes (asking setting uri device) outcome.world
  pub too_large :
      (setting : Setting) (place component : ℕ) (state : State) (device : Device)
      (uri bytes : List ℕ)
      → content_named state component keys.Uri ≡ Some uri → payload_of setting (length device.asked) uri ≡ Some bytes → capacity_of setting component < length bytes
      → let outcome = acts_at setting acts.Fetch place component state device in
      (outcome.cause ≡ Some causes.TooLarge) × Holds component [] (asking setting uri device) outcome.world

-- a copy replaces the content with that of the source, if there is room for it
pub record CopyRules : Type 0 where
  pub missing : MissingRule acts.Copy (λ state component. source_named state component ≡ None)
  pub itself : ItselfRule acts.Copy
  pub fits : (setting : Setting) (place component source : ℕ) (state : State) (device : Device)
      → source_named state component ≡ Some source → source ≢ component → length (content_at device source) ≤ capacity_of setting component
      → let outcome = acts_at setting acts.Copy place component state device in
      (outcome.ending ≡ Done state) × Holds component (content_at device source) device outcome.world
  pub too_large : (setting : Setting) (place component source : ℕ) (state : State) (device : Device)
      → source_named state component ≡ Some source → source ≢ component → capacity_of setting component < length (content_at device source)
      → FailsFor (acts_at setting acts.Copy place component state device) causes.TooLarge device

-- each component has what the other one had, and all else is as it was
pub record Exchanged (component source : ℕ) (before after : Device) : Type 0 where
  pub content : component < length before.contents
      → content_at after component ≡ content_at before source
  pub source_content : source < length before.contents
      → content_at after source ≡ content_at before component
  pub others : (other : ℕ) → other ≢ component → other ≢ source
      → content_at after other ≡ content_at before other
  pub launches : after.launches ≡ before.launches
  pub asked : after.asked ≡ before.asked

-- one of the two contents does not fit into the other component
abbrev pub NoRoom : Setting → Device → ℕ → ℕ → Type 0
NoRoom setting device component source =
    (capacity_of setting component < length (content_at device source)) ⊎ (capacity_of setting source < length (content_at device component))

-- a swap exchanges the two contents, if there is room for each
pub record SwapRules : Type 0 where
  pub missing : MissingRule acts.Swap (λ state component. source_named state component ≡ None)
  pub itself : ItselfRule acts.Swap
  pub fits : (setting : Setting) (place component source : ℕ) (state : State) (device : Device)
      → source_named state component ≡ Some source → source ≢ component
      → length (content_at device source) ≤ capacity_of setting component → length (content_at device component) ≤ capacity_of setting source
      → let outcome = acts_at setting acts.Swap place component state device in
      (outcome.ending ≡ Done state) × Exchanged component source device outcome.world
  pub too_large : (setting : Setting) (place component source : ℕ) (state : State) (device : Device)
      → source_named state component ≡ Some source → source ≢ component → NoRoom setting device component source
      → FailsFor (acts_at setting acts.Swap place component state device) causes.TooLarge device

-- this is the launch that an invoke adds
pub record IsLaunchOf (state : State) (device : Device) (at : ℕ) (launch : Launched) : Type 0 where
  pub component : launch.component ≡ at
  pub bytes : launch.bytes ≡ content_at device at
  pub digest : launch.digest ≡ digest_in state.parameters at
  pub size : launch.size ≡ size_in state.parameters at
  pub args : launch.args ≡ bytes_of (in_force state.parameters at keys.Args)

-- one launch was added, and nothing else changed
pub record Launches (state : State) (component : ℕ) (before after : Device) : Type 0 where
  pub launch : Launched
  pub is : IsLaunchOf state before component launch
  pub added : after.launches ≡ before.launches ++ launch ∷ []
  pub contents : after.contents ≡ before.contents
  pub asked : after.asked ≡ before.asked

-- without a fault, an invoke launches the content
abbrev pub InvokeRule : Type 0
InvokeRule =
    (setting : Setting) (place component : ℕ) (state : State) (device : Device)
    → let outcome = acts_at setting acts.Invoke place component state device in
    (outcome.ending ≡ Done state) × Launches state component device outcome.world

-- ---- payloads

-- which payload or file a URI finds, and what a host is asked for
pub record PayloadRules : Type 0 where
  -- a key that begins with '#' finds a payload of the envelope
  pub integrated : (setting : Setting) (request : ℕ) (key : List ℕ)
      → payload_of setting request (35 ∷ key) ≡ found_under setting.payloads (35 ∷ key)
  -- any other URI names a file, if it is known and there is such a file
  pub named : (setting : Setting) (request first : ℕ) (uri name : List ℕ) → first ≢ 35
      → found_under setting.words (first ∷ uri) ≡ Some name → payload_of setting request (first ∷ uri) ≡ setting.files request name
  pub unnamed : (setting : Setting) (request first : ℕ) (uri : List ℕ) → first ≢ 35
      → found_under setting.words (first ∷ uri) ≡ None → payload_of setting request (first ∷ uri) ≡ None
  -- the host is asked for that file, and for none under a key or if no file is known
  pub asks_none : (words : List (List ℕ × List ℕ)) (key : List ℕ) → asked_by words (35 ∷ key) ≡ []
  pub asks : (words : List (List ℕ × List ℕ)) (first : ℕ) (uri name : List ℕ) → first ≢ 35
      → found_under words (first ∷ uri) ≡ Some name → asked_by words (first ∷ uri) ≡ name ∷ []
  pub asks_unnamed : (words : List (List ℕ × List ℕ)) (first : ℕ) (uri : List ℕ) → first ≢ 35
      → found_under words (first ∷ uri) ≡ None → asked_by words (first ∷ uri) ≡ []
  -- the first pair with a name is found
  pub none : (key : List ℕ) → found_under [] key ≡ None
  pub here : (key value : List ℕ) (pairs : List (List ℕ × List ℕ))
      → found_under ((key, value) ∷ pairs) key ≡ Some value
  pub later : (key other value : List ℕ) (pairs : List (List ℕ × List ℕ)) → other ≢ key
      → found_under ((other, value) ∷ pairs) key ≡ found_under pairs key

-- ---- faults

-- the component has some bytes, up to its capacity, and all else is as it was
pub record HoldsSome (setting : Setting) (component : ℕ) (before after : Device) : Type 0 where
  pub bytes : List ℕ
  pub short : length bytes ≤ capacity_of setting component
  pub holds : Holds component bytes before after

-- both components of a swap have some bytes, up to their capacities, and all else is as it was
pub record HoldBoth (setting : Setting) (component : ℕ) (before after : Device) : Type 0 where
  pub source : ℕ
  pub middle : Device
  pub one : HoldsSome setting component before middle
  pub other : HoldsSome setting source middle after

-- the device after the request for the URI in force
pub record Asking (setting : Setting) (state : State) (component : ℕ) (before : Device)
    (Then : Device → Type 0) : Type 0 where
  pub uri : List ℕ
  pub named : content_named state component keys.Uri ≡ Some uri
  pub then_so : Then (asking setting uri before)

-- the device that a fault may leave: a fault of the flash leaves any content of what the directive writes, one of the
-- host the old content or none, and one of the launcher all as it was; a fetch asks the host first, which may fail at
-- once
abbrev pub Leaves : Setting → ActKind → Cause → ℕ → State → Device → Device → Type 0
Leaves setting acts.Write causes.FlashFault component state before after = HoldsSome setting component before after
Leaves setting acts.Fetch causes.FlashFault component state before after =
    Asking setting state component before (λ asked. HoldsSome setting component asked after)
Leaves setting acts.Fetch causes.HostFault component state before after =
    (after ≡ before) ⊎ Asking setting state component before (λ asked. (after ≡ asked) ⊎ Holds component [] asked after)
Leaves setting acts.Copy causes.FlashFault component state before after = HoldsSome setting component before after
Leaves setting acts.Swap causes.FlashFault component state before after = HoldBoth setting component before after
Leaves setting acts.Invoke causes.FlashFault component state before after = after ≡ before
Leaves setting acts.Invoke causes.LaunchFault component state before after = after ≡ before
Leaves setting kind cause component state before after = ⊥

-- a fault ended the directive, for a cause that it may have
pub record IsFault (setting : Setting) (kind : ActKind) (place component : ℕ) (state : State)
    (before : Device) (outcome : Outcome Device) : Type 0 where
  pub ending : outcome.ending ≡ Directive place
  pub cause : Cause
  pub named : outcome.cause ≡ Some cause
  pub leaves : Leaves setting kind cause component state before outcome.world

-- whatever cuts a directive is such a fault
abbrev pub FaultRule : Type 0
FaultRule =
    (setting : Setting) (kind : ActKind) (place component : ℕ) (state : State) (device : Device) (outcome : Outcome Device)
    → (directive_play setting kind place component).IsCut state device outcome → IsFault setting kind place component state device outcome
