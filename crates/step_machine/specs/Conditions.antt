-- When a condition passes for a component, and when a fault of the flash cuts it, as plays have it.
use Rattle.std.specs.Prelude.{◌≡◌, ◌↔◌, ℕ, Bool, IsTrue, List, Some, slice_get}
use Rattle.suit_params.specs.InForce.{Parameters}
use Rattle.suit_commands.specs.declared.kinds.TestKind.{TestKind}
use Rattle.path_model.specs.declared.identity.Identity.{Identity}
use Rattle.path_model.specs.Behaviour.{State}
use Rattle.path_model.specs.Settings.{Setting}
use Rattle.path_model.specs.DevicePlays.{Device, content_at, unread, condition_play}
use Rattle.path_model.specs.DeviceLaws.{TestPasses}

-- the play of the condition passes or not like this, in each setting and on each device where the component has this
-- identity and content
abbrev pub PassesAs : TestKind → ℕ → Parameters → Identity → List ℕ → Bool → Type 0
PassesAs kind component parameters identity content passed =
    (setting : Setting) (place : ℕ) (state : State) (device : Device)
    → state.parameters ≡ parameters → slice_get setting.identities component ≡ Some identity
    → content_at device component ≡ content
    → IsTrue passed ↔ TestPasses setting kind place component state device

-- the play of the condition may be cut, in each setting and on each device
abbrev pub CutsPlay : TestKind → ℕ → Parameters → Type 0
CutsPlay kind component parameters =
    (setting : Setting) (place : ℕ) (state : State) (device : Device)
    → state.parameters ≡ parameters
    → (condition_play setting kind place component).IsCut state device (unread place device)
