-- The stages that read what is installed in the flash.
use Rattle.std.specs.Prelude.{◌≡◌, ℕ, ◌+◌, IsTrue, List, [], ◌∷◌, ◌++◌, length, slice_index, Some, None, Result, Ok, Err, codes}
use Rattle.std.specs.Fmt.{decimal}
use Rattle.hex.specs.Hex.{encode_lower}
use Rattle.suit_params.specs.DigestBytes.{digest_bytes}
use Rattle.suit_edge.specs.Faults.{Faulted}
use Rattle.flash_layout.specs.declared.frame.Frame.{Frame}
use Rattle.flash_layout.specs.declared.key.Key.{Key}
use Rattle.flash_layout.specs.declared.layout.Entry.{Entry}
use Rattle.flash_layout.specs.declared.layout.Memory.{Memory}
use Rattle.flash_layout.specs.declared.layout.Memory.TheVariants as memory
use Rattle.flash_layout.specs.declared.slot.Record.{Record}
use Rattle.flash_layout.specs.Configs.{ConfigOf, Configured, Blank, Bad}
use Rattle.flash_layout.specs.Frames.{head_of}
use Rattle.flash_layout.specs.Layouts.{slot_starts}
use Rattle.flash_layout.specs.Slots.{slot_at, slot_content}
use Rattle.rollback_record.specs.HeadRecord.{RecordOf}
use Rattle.step_machine.specs.InUse.{slot_in_use}
use Rattle.suit_cli.specs.declared.reply.Object.TheVariants as objects
use Rattle.suit_cli.specs.declared.reply.Stop.{Stop}
use Rattle.suit_cli.specs.declared.reply.Stop.TheVariants as stops
use Rattle.suit_cli.specs.declared.reply.Reply.{Reply}
use Rattle.suit_cli.specs.declared.reply.Outcome.TheVariants as outcomes
use Rattle.suit_cli.specs.Lines.{joined, number_line}
use Rattle.suit_cli.specs.Replies.{IsReply}
use Rattle.suit_cli.specs.Outside.{Flashed}
use Rattle.suit_cli.specs.Stages.{Stage, looking}

-- ---- the configuration

abbrev pub Holds : Flashed → List Entry × Key × Frame → Type 0
Holds flash config =
    IsTrue flash.told
    → ConfigOf flash.size flash.reads
    (Configured config.0 config.1 config.2)

pub data HoldsNone (flash : Flashed) (reply : Reply) : Type 0 where
  IsBlank :
      (IsTrue flash.told → ConfigOf flash.size flash.reads Blank)
      → IsReply reply outcomes.Unconfigured (codes "blank\n") → HoldsNone flash reply
  IsBad : (IsTrue flash.told → ConfigOf flash.size flash.reads Bad)
      → IsReply reply outcomes.Unconfigured (codes "bad config\n") → HoldsNone flash reply

abbrev pub config_in : Stage (List Entry × Key × Frame)
config_in = looking Holds HoldsNone

-- ---- the record

abbrev pub IsInstalled : Frame → Flashed → Record → Type 0
IsInstalled frame flash installed =
    IsTrue flash.told → RecordOf frame (head_of frame flash.reads) (Some installed)

pub record IsNothing (frame : Frame) (flash : Flashed) (reply : Reply) : Type 0 where
  pub none : IsTrue flash.told → RecordOf frame (head_of frame flash.reads) None
  pub says : IsReply reply outcomes.NothingInstalled (codes "nothing installed\n")

-- the record of a flash with this frame
abbrev pub record_in : Frame → Stage Record
record_in frame = looking (IsInstalled frame) (IsNothing frame)

-- ---- the contents

abbrev pub slot_line : ℕ → ℕ → ℕ → List ℕ
slot_line i number size =
    joined
    (codes "component " ∷ decimal i ∷ codes " slot " ∷ decimal number ∷ codes " length "
    ∷ decimal size ∷ codes "\n" ∷ [])

abbrev pub ram_line : ℕ → List ℕ
ram_line i = joined (codes "component " ∷ decimal i ∷ codes " ram\n" ∷ [])

abbrev pub line_of : Memory → ℕ → ℕ → ℕ → List ℕ
line_of memory.Flash i number size = slot_line i number size
line_of memory.Ram i number size = ram_line i

-- of a component in flash its slot that is in use, and how many bytes stand there
abbrev pub component_line : ℕ → Entry → ℕ → List ℕ → List ℕ
component_line i e active image =
    line_of e.memory i (slot_in_use e active)
    (length (slot_content (slot_at e (slice_index (slot_starts e) (slot_in_use e active))) image))

-- a line for each component
abbrev pub component_lines : ℕ → List Entry → List ℕ → List ℕ → List ℕ
component_lines i [] active image = []
component_lines i (e ∷ layout) active image =
    component_line i e (slice_index active i) image ++ component_lines (i + 1) layout active image

-- The lines as the flash reads, if it tells. This stage never declines.
abbrev pub lines_in : List Entry → Record → Stage (List ℕ)
lines_in layout installed =
    looking
    (λ flash lines. IsTrue flash.told
    → lines ≡ component_lines 0 layout installed.active flash.reads)
    (λ flash reply. ⊥)

-- the count of faults after a result that only the flash can make fail
abbrev pub FlashCounts : {A : Type 0} → Result A Stop → ℕ → ℕ → Type 0
FlashCounts (Ok a) before now = now ≡ before
FlashCounts (Err (stops.Declined reply)) before now = ⊥
FlashCounts (Err (stops.Fault objects.Host)) before now = ⊥
FlashCounts (Err (stops.Fault objects.Flash)) before now = Faulted before now
FlashCounts (Err stops.NoMemory) before now = now ≡ before

-- ---- the lines

abbrev pub digest_line : List ℕ → List ℕ
digest_line digest = joined (codes "digest " ∷ encode_lower digest ∷ codes "\n" ∷ [])

abbrev pub record_lines : Record → List ℕ
record_lines r =
    number_line (codes "sequence") r.sequence ++ (number_line (codes "generation") r.generation
    ++ (number_line (codes "bank") r.bank ++ digest_line (digest_bytes r.digest)))

abbrev pub TellsStatus : Record → List ℕ → Reply → Type 0
TellsStatus installed lines reply = IsReply reply outcomes.Done (record_lines installed ++ lines)
