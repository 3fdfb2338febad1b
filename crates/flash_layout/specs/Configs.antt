-- The configuration of an image of the flash: a layout, a key, and the frame that says where its parts are.
use Rattle.std.specs.Prelude.{◌≡◌, ◌⊎◌, ◌<◌, ◌≤◌, ◌+◌, ℕ, List, length, Option, Some, None}
use Rattle.suit_edge.specs.Faults.{Faulted}
use Rattle.suit_edge.specs.Gate.{IsOpen}
use Rattle.flash_layout.specs.declared.frame.Frame.{Frame}
use Rattle.flash_layout.specs.declared.frame.TheConstants.{CONFIG_GATE, HEAD_SIZE, ROOT_GATE}
use Rattle.flash_layout.specs.declared.layout.Entry.{Entry}
use Rattle.flash_layout.specs.declared.key.Key.{Key}
use Rattle.flash_layout.specs.declared.load.Loaded.{Loaded}
use Rattle.flash_layout.specs.declared.load.Loaded.TheVariants as loaded
use Rattle.flash_layout.specs.Layouts.{AreTyped, IsLayout, IsKey}
use Rattle.flash_layout.specs.ConfigPage.{IsConfigPage}
use Rattle.flash_layout.specs.Frames.{IsFrame, config_page_of, head_of, head_size}
use Rattle.flash_layout.specs.Roots.{frame_told}

-- what an image holds: no configuration, a bad one, or a layout and a key with their frame
pub data Config : Type 0 where
  Blank : Config
  Bad : Config
  Configured : List Entry → Key → Frame → Config

-- neither the gate of version 1's configuration page nor that of the root is open
abbrev pub AreGatesClosed : List ℕ → Type 0
AreGatesClosed image = (IsOpen image CONFIG_GATE → ⊥) × (IsOpen image ROOT_GATE → ⊥)

-- the flash is too small for a head, or its gates are closed
abbrev pub IsBlank : List ℕ → Type 0
IsBlank image = (length image < HEAD_SIZE) ⊎ AreGatesClosed image

-- the image has the frame, which is allowed on a flash of this size, and the page of this layout and key
pub record IsConfigured (size : ℕ) (image : List ℕ) (layout : List Entry) (key : Key)
    (frame : Frame) : Type 0 where
  pub placed : IsFrame size frame
  pub told : frame_told image ≡ Some frame
  pub whole : frame.base + head_size frame ≤ length image
  pub typed : AreTyped layout key
  pub page : IsConfigPage frame size (config_page_of frame (head_of frame image)) layout key

-- a gate is open, but there is no layout and key that are allowed
pub record IsBad (size : ℕ) (image : List ℕ) : Type 0 where
  pub whole : HEAD_SIZE ≤ length image
  pub gate : IsOpen image CONFIG_GATE ⊎ IsOpen image ROOT_GATE
  pub none : (layout : List Entry) (key : Key) (frame : Frame)
      → IsConfigured size image layout key frame → ⊥

-- the image has this configuration, on a flash of this size
abbrev pub ConfigOf : ℕ → List ℕ → Config → Type 0
ConfigOf size image Blank = IsBlank image
ConfigOf size image Bad = IsBad size image
ConfigOf size image (Configured layout key frame) = IsConfigured size image layout key frame

-- ---- the frame

-- the frame that the root gives, if it is allowed on a flash of this size
abbrev pub FrameOf : ℕ → List ℕ → Option Frame → Type 0
FrameOf size image (Some frame) = IsFrame size frame × (frame_told image ≡ Some frame)
FrameOf size image None =
    (frame : Frame) → IsFrame size frame → frame_told image ≡ Some frame → ⊥

-- ---- the answers of a load

-- the count of faults rises for a fault, and stays otherwise
abbrev pub LoadCounts : Loaded → ℕ → ℕ → Type 0
LoadCounts loaded.FlashFault before now = Faulted before now
LoadCounts _ before now = now ≡ before

-- a layout and a key that are allowed on a flash of this size with this frame
pub record IsAllowed (frame : Frame) (size : ℕ) (layout : List Entry) (key : Key) : Type 0 where
  pub frame_is : IsFrame size frame
  pub whole : head_size frame ≤ size
  pub layout_is : IsLayout frame size layout
  pub key_is : IsKey key
  pub typed : AreTyped layout key

-- a configuration that was loaded is allowed on a flash of this size
abbrev pub LoadsAllowed : ℕ → Loaded → Type 0
LoadsAllowed size (loaded.Config layout key frame) = IsAllowed frame size layout key
LoadsAllowed size _ = Unit {0}

-- the answer is what the image says, or there was a fault, or memory ran out
abbrev pub LoadsExactly : ℕ → List ℕ → Loaded → Type 0
LoadsExactly size image (loaded.Config layout key frame) =
    ConfigOf size image (Configured layout key frame)
LoadsExactly size image loaded.Blank = ConfigOf size image Blank
LoadsExactly size image loaded.BadConfig = ConfigOf size image Bad
LoadsExactly size image loaded.FlashFault = Unit {0}
LoadsExactly size image loaded.NoMemory = Unit {0}
