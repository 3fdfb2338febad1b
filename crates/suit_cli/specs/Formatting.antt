-- The stages that find a flash blank and format it, and what a power loss on the way leaves.
use Rattle.std.specs.Prelude.{◌≡◌, ◌⊎◌, ℕ, IsTrue, List, codes}
use Rattle.suit_edge.specs.Flash.{Flash, Now}
use Rattle.flash_layout.specs.declared.frame.Frame.{Frame}
use Rattle.flash_layout.specs.declared.key.Key.{Key}
use Rattle.flash_layout.specs.declared.layout.Entry.{Entry}
use Rattle.flash_layout.specs.Formats.{HasOpenGate, IsFormatted, IsBlankOrFormatted, OutsideFormat}
use Rattle.suit_cli.specs.declared.reply.Reply.{Reply}
use Rattle.suit_cli.specs.declared.reply.Outcome.TheVariants as outcomes
use Rattle.suit_cli.specs.Replies.{IsReply}
use Rattle.suit_cli.specs.Outside.{Outside, Flashed}
use Rattle.suit_cli.specs.Stages.{Stage, Answers, looking, writing, ◌>>=◌, Said}
use Rattle.suit_cli.specs.Inputs.{longest_device, IsRead, IsKey}
use Rattle.suit_cli.specs.Devices.{IsDevice, key_of}

-- ---- the gate of version 1, and that of the root

-- neither gate is open
abbrev pub IsShut : Flashed → Type 0
IsShut flash = IsTrue flash.told → HasOpenGate flash.reads → ⊥

-- neither gate is open, and the flash has this size
pub record IsUnused (flash : Flashed) (size : ℕ) : Type 0 where
  pub size_is : size ≡ flash.size
  pub shut : IsShut flash

pub record IsInUse (flash : Flashed) (reply : Reply) : Type 0 where
  pub opened : IsTrue flash.told → HasOpenGate flash.reads
  pub says : IsReply reply outcomes.NotBlank (codes "not blank\n")

abbrev pub unused : Stage ℕ
unused = looking IsUnused IsInUse

-- ---- the format

-- the gates were shut, and now the flash has the layout and the key, no record, and empty slots
abbrev pub Formats : Frame → List Entry → Key → Flashed → Flashed → Type 0
Formats frame layout key old new =
    IsShut old × (IsTrue old.told → IsFormatted frame old.size layout key new.reads)

-- It declines where a gate is open after all. No flash that tells can have one, since `unused` found both shut.
abbrev pub formatting : Frame → List Entry → Key → Stage (Unit {0})
formatting frame layout key =
    writing (Formats frame layout key) (OutsideFormat frame layout) IsInUse

abbrev pub formats : Frame → List Entry → Key → Answers
formats frame layout key =
    formatting frame layout key >>= λ _.
    Said (λ reply. IsReply reply outcomes.Done (codes "ready\n"))

-- ---- the image that a power loss leaves

-- an image that could be left at the start, or another one of this kind
abbrev pub MayBe : Flash → (List ℕ → Type 0) → List ℕ → Type 0
MayBe start Other image = Now start image ⊎ Other image

-- The first file describes a layout for a flash of the size, and the second holds a key. If each image that a power loss
-- may leave at the start is blank, this one is blank, or has that layout and key, no record, and empty slots.
pub record MayFormat (size : ℕ) (device key_name : List ℕ) (before : Outside) (start : Flash)
    (image : List ℕ) : Type 0 where
  pub bytes : List ℕ
  pub layout : List Entry
  pub frame : Frame
  pub key : List ℕ
  pub holds : IsRead longest_device device before bytes
  pub describes : IsDevice size bytes layout frame
  pub has_key : IsKey key_name before key
  pub blank_or_formatted : IsBlankOrFormatted frame size layout (key_of key) start image

-- an image that could be left at the start; or, if the flash is not in use, one on the way to the format
abbrev pub MayLeave : List ℕ → List ℕ → Outside → Flash → List ℕ → Type 0
MayLeave device key_name before start =
    MayBe start
    (λ image. IsShut before.flash
    × MayFormat before.flash.size device key_name before start image)
