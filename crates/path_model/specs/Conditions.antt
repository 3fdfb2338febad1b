-- Conditions at one component (draft-ietf-suit-manifest-25, sections 6.4 and 8.4.9).
use Rattle.std.specs.Prelude.{◌≡◌, ℕ, ◌⊎◌, true, false, List, [], ◌∷◌, Option, Some, None, slice_get}
use Rattle.suit_params.specs.declared.digest.Digest.{Digest}
use Rattle.path_model.specs.declared.identity.Identity.{Identity}
use Rattle.suit_commands.specs.declared.kinds.TestKind.{TestKind}
use Rattle.suit_commands.specs.declared.kinds.TestKind.TheVariants as tests
use Rattle.suit_params.specs.declared.param.ParamKey.{ParamKey}
use Rattle.suit_params.specs.declared.param.ParamKey.TheVariants as keys
use Rattle.path_model.specs.declared.event.Event.{Event}
use Rattle.path_model.specs.declared.event.Event.TheVariants.{Tried, Matched, Missed, Failed}
use Rattle.suit_params.specs.InForce.{in_force, identifier_of, number_of, bytes_of, digest_in, size_in}
use Rattle.path_model.specs.Behaviour.{Behaviour, Done, Condition}

-- the condition passes: there is this event, and the state stays
abbrev pub IsMet : Event → Behaviour
IsMet event state events ending = (events ≡ event ∷ []) × (ending ≡ Done state)

-- the condition fails: there is this event and the place of the command, and the sequence ends
abbrev pub IsUnmet : ℕ → Event → Behaviour
IsUnmet place event state events ending =
    (events ≡ event ∷ Failed place ∷ []) × (ending ≡ Condition place state.soft_failure)

-- ---- conditions on the identity pass exactly if their parameter is in force and the identity has the same value

-- the parameter is in force, and the identity has its value
abbrev pub IsAsWanted : {A : Type 0} → Option A → Option A → Type 0
IsAsWanted None own = ⊥
IsAsWanted (Some wanted) own = own ≡ Some wanted

-- the condition passes if the value is the wanted one, and fails if not
abbrev pub Compares : {A : Type 0} → ℕ → TestKind → ℕ → Option A → Option A → Behaviour
Compares place kind component wanted own state events ending =
    (IsAsWanted wanted own × IsMet (Tried component kind true) state events ending)
    ⊎ ((IsAsWanted wanted own → ⊥) × IsUnmet place (Tried component kind false) state events ending)

abbrev pub vendor_of : Option Identity → Option (List ℕ)
vendor_of None = None
vendor_of (Some identity) = identity.vendor

abbrev pub class_of : Option Identity → Option (List ℕ)
class_of None = None
class_of (Some identity) = identity.class

abbrev pub device_of : Option Identity → Option (List ℕ)
device_of None = None
device_of (Some identity) = identity.device

abbrev pub slot_of : Option Identity → Option ℕ
slot_of None = None
slot_of (Some identity) = Some identity.slot

-- compares an identifier of the identity with the one in force under this key
abbrev pub ComparesIdentifier : TestKind → ParamKey → (Option Identity → Option (List ℕ)) → List Identity → ℕ → ℕ
    → Behaviour
ComparesIdentifier kind key own_of identities place component state =
    Compares place kind component (identifier_of (in_force state.parameters component key))
    (own_of (slice_get identities component)) state

-- ---- conditions on the content may end either way if their parameter is in force

-- image match, under the digest and size in force
abbrev pub Matches : ℕ → ℕ → Option Digest → Option ℕ → Behaviour
Matches place component None size state events ending =
    IsUnmet place (Missed component) state events ending
Matches place component (Some digest) size state events ending =
    IsMet (Matched component digest size) state events ending
    ⊎ IsUnmet place (Missed component) state events ending

-- check content, by the content in force
abbrev pub ChecksContent : ℕ → ℕ → Option (List ℕ) → Behaviour
ChecksContent place component None state events ending =
    IsUnmet place (Tried component tests.CheckContent false) state events ending
ChecksContent place component (Some content) state events ending =
    IsMet (Tried component tests.CheckContent true) state events ending
    ⊎ IsUnmet place (Tried component tests.CheckContent false) state events ending

-- ---- each condition

-- how each condition may end at one component
abbrev pub Tests : TestKind → List Identity → ℕ → ℕ → Behaviour
Tests tests.Vendor identities place component state =
    ComparesIdentifier tests.Vendor keys.Vendor vendor_of identities place component state
Tests tests.Class identities place component state =
    ComparesIdentifier tests.Class keys.Class class_of identities place component state
Tests tests.Device identities place component state =
    ComparesIdentifier tests.Device keys.Device device_of identities place component state
Tests tests.Slot identities place component state =
    Compares place tests.Slot component
    (number_of (in_force state.parameters component keys.Slot))
    (slot_of (slice_get identities component)) state
Tests tests.ImageMatch identities place component state =
    Matches place component (digest_in state.parameters component)
    (size_in state.parameters component) state
Tests tests.CheckContent identities place component state =
    ChecksContent place component (bytes_of (in_force state.parameters component keys.Content))
    state
Tests tests.Abort identities place component state =
    IsUnmet place (Tried component tests.Abort false) state
