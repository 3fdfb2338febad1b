-- Laws of one condition or directive at one component: how it may end, by the code numbers of the draft
-- (draft-ietf-suit-manifest-25, sections 8.4.8 to 8.4.10).
use Rattle.std.specs.Prelude.{◌≡◌, ◌≢◌, ◌↔◌, ◌⊎◌, ◌==◌, if◌then◌else◌, ℕ, true, false, List, [], ◌∷◌, ◌++◌, Option, Some, None, option_map, slice_get}
use Rattle.suit_params.specs.declared.digest.Digest.{Digest}
use Rattle.path_model.specs.declared.identity.Identity.{Identity}
use Rattle.suit_params.specs.declared.param.Param.{Param}
use Rattle.suit_params.specs.declared.param.Param.TheVariants as params
use Rattle.suit_params.specs.declared.param.ParamKey.{ParamKey}
use Rattle.suit_params.specs.declared.param.ParamKey.TheVariants as keys
use Rattle.suit_commands.specs.declared.kinds.TestKind.{TestKind}
use Rattle.suit_commands.specs.declared.kinds.TestKind.TheVariants as tests
use Rattle.suit_commands.specs.declared.kinds.ActKind.{ActKind}
use Rattle.suit_commands.specs.declared.kinds.ActKind.TheVariants as acts
use Rattle.path_model.specs.declared.event.Event.{Event}
use Rattle.path_model.specs.declared.event.Event.TheVariants.{Tried, Matched, Missed, Wrote, Invoked, Failed}
use Rattle.suit_commands.specs.Kinds.{test_code, act_code}
use Rattle.suit_params.specs.ParamKeys.{key_of, key_number}
use Rattle.suit_params.specs.InForce.{in_force}
use Rattle.path_model.specs.Behaviour.{State, Ending, Done, Condition, Directive}
use Rattle.path_model.specs.Conditions.{Tests}
use Rattle.path_model.specs.Directives.{Acts}

-- ---- conditions

-- the condition passes: there is this event, and the state stays
abbrev pub PassedBy : Event → State → List Event → Ending → Type 0
PassedBy event state events ending = (events ≡ event ∷ []) × (ending ≡ Done state)

-- the event of a condition that fails at a component
abbrev pub failure_event : TestKind → ℕ → Event
failure_event tests.ImageMatch component = Missed component
failure_event kind component = Tried component kind false

-- the condition fails: there is that event and the place of the command, and the sequence ends with its soft failure
abbrev pub FailedAt : ℕ → TestKind → ℕ → State → List Event → Ending → Type 0
FailedAt place kind component state events ending =
    (events ≡ failure_event kind component ∷ Failed place ∷ []) × (ending ≡ Condition place state.soft_failure)

-- the events of a condition that passes at a component
pub data TellsPassed : TestKind → ℕ → Event → Type 0 where
  MatchTold : (component : ℕ) (digest : Digest) (size : Option ℕ)
      → TellsPassed tests.ImageMatch component (Matched component digest size)
  PassTold : (kind : TestKind) (component : ℕ) → kind ≢ tests.ImageMatch
      → TellsPassed kind component (Tried component kind true)

-- the condition passes, with the event that tells so
pub record EndsPassed (kind : TestKind) (component : ℕ) (state : State) (events : List Event)
    (ending : Ending) : Type 0 where
  pub event : Event
  pub tells : TellsPassed kind component event
  pub passed : PassedBy event state events ending

-- a condition passes or fails, whatever is in force
abbrev pub ConditionsEnd : Type 0
ConditionsEnd =
    (kind : TestKind) (identities : List Identity) (place component : ℕ) (state : State) (events : List Event) (ending : Ending)
    → Tests kind identities place component state events ending
    → EndsPassed kind component state events ending ⊎ FailedAt place kind component state events ending

-- abort always fails
abbrev pub AbortFails : Type 0
AbortFails =
    (identities : List Identity) (place component : ℕ) (state : State) (events : List Event) (ending : Ending)
    → Tests tests.Abort identities place component state events ending ↔ FailedAt place tests.Abort component state events ending

-- check content needs the content parameter; each other condition needs the parameter with its own number
abbrev pub compared_number : ℕ → ℕ
compared_number code = if code == 6 then 18 else code

-- without its parameter a condition always fails
abbrev pub ConditionsNeed : Type 0
ConditionsNeed =
    (kind : TestKind) (key : ParamKey) (identities : List Identity) (place component : ℕ) (state : State) (events : List Event) (ending : Ending)
    → key_number key ≡ compared_number (test_code kind) → in_force state.parameters component key ≡ None
    → Tests kind identities place component state events ending ↔ FailedAt place kind component state events ending

-- conditions on the identity

abbrev pub IsOnIdentity : TestKind → Type 0
IsOnIdentity tests.Vendor = Unit {0}
IsOnIdentity tests.Class = Unit {0}
IsOnIdentity tests.Device = Unit {0}
IsOnIdentity tests.Slot = Unit {0}
IsOnIdentity _ = ⊥

-- the identity has the value of this parameter
abbrev pub HasValue : Identity → Param → Type 0
HasValue identity (params.Vendor id) = identity.vendor ≡ Some id
HasValue identity (params.Class id) = identity.class ≡ Some id
HasValue identity (params.Device id) = identity.device ≡ Some id
HasValue identity (params.Slot number) = identity.slot ≡ number
HasValue identity _ = ⊥

-- the condition passes if `has` holds, and fails if not
abbrev pub Follows : Type 0 → ℕ → TestKind → ℕ → State → List Event → Ending → Type 0
Follows has place kind component state events ending =
    (has × PassedBy (Tried component kind true) state events ending)
    ⊎ ((has → ⊥) × FailedAt place kind component state events ending)

-- a condition on the identity passes exactly if the identity has the value of its parameter
abbrev pub IdentityFollowed : Type 0
IdentityFollowed =
    (kind : TestKind) (identities : List Identity) (identity : Identity) (param : Param) (place component : ℕ) (state : State)
    (events : List Event) (ending : Ending)
    → IsOnIdentity kind → key_number (key_of param) ≡ test_code kind → slice_get identities component ≡ Some identity
    → in_force state.parameters component (key_of param) ≡ Some param
    → Tests kind identities place component state events ending ↔ Follows (HasValue identity param) place kind component state events ending

-- if the component has no identity, a condition on the identity fails
abbrev pub IdentityNeeded : Type 0
IdentityNeeded =
    (kind : TestKind) (identities : List Identity) (place component : ℕ) (state : State) (events : List Event) (ending : Ending)
    → IsOnIdentity kind → slice_get identities component ≡ None
    → Tests kind identities place component state events ending ↔ FailedAt place kind component state events ending

-- for one list of identities, a condition on the identity ends in one way only
abbrev pub IdentityDecides : Type 0
IdentityDecides =
    (kind : TestKind) (identities : List Identity) (place component : ℕ) (state : State) (events others : List Event) (ending other : Ending)
    → IsOnIdentity kind → Tests kind identities place component state events ending
    → Tests kind identities place component state others other → (events ≡ others) × (ending ≡ other)

-- conditions on the content may end either way if their parameter is in force

-- the event of a match has the digest and size in force, and no size if none is
abbrev pub MatchIsFree : Type 0
MatchIsFree =
    (identities : List Identity) (place component : ℕ) (digest : Digest) (size : Option ℕ) (state : State) (events : List Event) (ending : Ending)
    → in_force state.parameters component keys.Digest ≡ Some (params.Digest digest)
    → in_force state.parameters component keys.Size ≡ option_map params.Size size
    → Tests tests.ImageMatch identities place component state events ending
    ↔ (PassedBy (Matched component digest size) state events ending ⊎ FailedAt place tests.ImageMatch component state events ending)

-- check content may pass or fail if its parameter is in force
abbrev pub ContentIsFree : Type 0
ContentIsFree =
    (identities : List Identity) (place component : ℕ) (content : List ℕ) (state : State) (events : List Event) (ending : Ending)
    → in_force state.parameters component keys.Content ≡ Some (params.Content content)
    → Tests tests.CheckContent identities place component state events ending
    ↔ (PassedBy (Tried component tests.CheckContent true) state events ending ⊎ FailedAt place tests.CheckContent component state events ending)

-- ---- directives

-- the directive has these events and is done, or it has these events and its place, and ends the procedure
abbrev pub EndsEitherWay : List Event → ℕ → State → List Event → Ending → Type 0
EndsEitherWay told place state events ending =
    ((events ≡ told) × (ending ≡ Done state)) ⊎ ((events ≡ told ++ Failed place ∷ []) × (ending ≡ Directive place))

-- a swap takes the source parameter as a copy does; each other directive takes the parameter with its own number
abbrev pub taken_number : ℕ → ℕ
taken_number code = if code == 31 then 22 else code

-- a swap writes both components
abbrev pub written : ActKind → ℕ → Param → List Event
written acts.Swap component (params.Source source) = Wrote component ∷ Wrote source ∷ []
written _ component _ = Wrote component ∷ []

-- if its parameter is in force, a write, fetch, copy or swap writes, whether it fails or not
abbrev pub DirectivesWrite : Type 0
DirectivesWrite =
    (kind : ActKind) (param : Param) (place component : ℕ) (state : State) (events : List Event) (ending : Ending)
    → kind ≢ acts.Invoke → key_number (key_of param) ≡ taken_number (act_code kind)
    → in_force state.parameters component (key_of param) ≡ Some param
    → Acts kind place component state events ending ↔ EndsEitherWay (written kind component param) place state events ending

-- if its parameter is not in force, it fails and writes nothing
abbrev pub DirectivesNeed : Type 0
DirectivesNeed =
    (kind : ActKind) (key : ParamKey) (place component : ℕ) (state : State) (events : List Event) (ending : Ending)
    → kind ≢ acts.Invoke → key_number key ≡ taken_number (act_code kind) → in_force state.parameters component key ≡ None
    → Acts kind place component state events ending ↔ ((events ≡ Failed place ∷ []) × (ending ≡ Directive place))

-- the event of an invoke has the digest and size in force, if any, and whether it passed
abbrev pub InvokesTell : Type 0
InvokesTell =
    (place component : ℕ) (digest : Option Digest) (size : Option ℕ) (state : State) (events : List Event) (ending : Ending)
    → in_force state.parameters component keys.Digest ≡ option_map params.Digest digest
    → in_force state.parameters component keys.Size ≡ option_map params.Size size
    → Acts acts.Invoke place component state events ending
    ↔ (((events ≡ Invoked component digest size true ∷ []) × (ending ≡ Done state))
    ⊎ ((events ≡ Invoked component digest size false ∷ Failed place ∷ []) × (ending ≡ Directive place)))
