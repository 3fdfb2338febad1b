-- The stage that judges a device's description, and the key of a flash.
use Rattle.std.specs.Prelude.{◌≡◌, ℕ, List, [], ◌∷◌, length, Some, None, codes}
use Rattle.std.specs.Fmt.{decimal}
use Rattle.std.specs.Str.{IsUtf8}
use Rattle.serde_json.specs.Data.{Data}
use Rattle.serde_json.specs.Read.{read}
use Rattle.flash_layout.specs.declared.frame.Frame.{Frame}
use Rattle.flash_layout.specs.declared.key.Key.{Key}
use Rattle.flash_layout.specs.declared.layout.Entry.{Entry}
use Rattle.flash_layout.specs.declared.layout_fault.LayoutFault.{LayoutFault}
use Rattle.flash_layout.specs.declared.layout_fault.LayoutFault.TheVariants as faults
use Rattle.flash_layout.specs.ConfigPage.{padded}
use Rattle.flash_layout.specs.LayoutFaults.{IsLayoutOf, RefusesLayout}
use Rattle.suit_cli.specs.declared.reply.Reply.{Reply}
use Rattle.suit_cli.specs.declared.reply.Outcome.TheVariants as outcomes
use Rattle.suit_cli.specs.Lines.{joined}
use Rattle.suit_cli.specs.Json.{bad_json_line}
use Rattle.suit_cli.specs.Replies.{IsReply}
use Rattle.suit_cli.specs.Stages.{Stage, judging}

-- ---- the description

-- the bytes are JSON (RFC 8259), and describe this layout and frame of a flash of the size
pub record IsDevice (size : ℕ) (bytes : List ℕ) (layout : List Entry) (frame : Frame)
    : Type 0 where
  pub utf8 : IsUtf8 bytes
  pub value : Data
  pub reads : read bytes ≡ Some value
  pub describes : IsLayoutOf size value layout frame

-- a word, and the place of a value by its JSON Pointer
abbrev pub pointed_line : List ℕ → List ℕ → List ℕ
pointed_line word pointer = joined (word ∷ codes " " ∷ pointer ∷ codes "\n" ∷ [])

-- two components by their numbers
abbrev pub alike_line : ℕ → ℕ → List ℕ
alike_line i j =
    joined (codes "components " ∷ decimal i ∷ codes " and " ∷ decimal j ∷ codes " are alike\n" ∷ [])

-- the line of what is wrong; running out of memory has none here
abbrev pub IsFaultLine : LayoutFault → List ℕ → Type 0
IsFaultLine (faults.BadField pointer) text = text ≡ pointed_line (codes "bad field") pointer
IsFaultLine (faults.BadHex pointer) text = text ≡ pointed_line (codes "bad hex") pointer
IsFaultLine (faults.BadUuid pointer) text = text ≡ pointed_line (codes "bad uuid") pointer
IsFaultLine (faults.TooMany n) text = text ≡ joined (decimal n ∷ codes " components\n" ∷ [])
IsFaultLine (faults.TwoAlike i j) text = text ≡ alike_line i j
IsFaultLine (faults.Overlap i j) text =
    text ≡ joined (codes "slots of " ∷ decimal i ∷ codes " and " ∷ decimal j ∷ codes " overlap\n" ∷ [])
IsFaultLine (faults.Outside i) text =
    text ≡ joined (codes "slot of " ∷ decimal i ∷ codes " is outside\n" ∷ [])
IsFaultLine faults.BaseOutside text = text ≡ codes "base is outside\n"
IsFaultLine (faults.BaseOverlap i) text =
    text ≡ joined (codes "base overlaps slot of " ∷ decimal i ∷ codes "\n" ∷ [])
IsFaultLine faults.NoMemory text = ⊥

pub record TellsLayout (fault : LayoutFault) (reply : Reply) : Type 0 where
  pub outcome_is : reply.outcome ≡ outcomes.Refused
  pub line : IsFaultLine fault reply.text

-- the bytes are no JSON, or describe no layout
pub data IsNoDevice (size : ℕ) (bytes : List ℕ) (reply : Reply) : Type 0 where
  IsNoJson : (IsUtf8 bytes → read bytes ≡ None) → IsReply reply outcomes.Refused bad_json_line
      → IsNoDevice size bytes reply
  IsNoLayout : (value : Data) (fault : LayoutFault) → IsUtf8 bytes → read bytes ≡ Some value
      → RefusesLayout size value fault → TellsLayout fault reply
      → IsNoDevice size bytes reply

abbrev pub device_in : ℕ → List ℕ → Stage (List Entry × Frame)
device_in size bytes =
    judging (λ described. IsDevice size bytes described.0 described.1) (IsNoDevice size bytes)

-- ---- the key

-- so many bytes, and zeros after them
abbrev pub key_of : List ℕ → Key
key_of bytes = record { bytes = padded 64 bytes; length = length bytes }
