-- The flash at each moment while an envelope is written to a bank and then recorded.
use Rattle.std.specs.Prelude.{◌≡◌, ◌<◌, ◌≤◌, ◌^◌, ◌-◌, ℕ, List, length, slice_index, IfSome, Option}
use Rattle.suit_edge.specs.Flash.{Flash, ImageOn}
use Rattle.suit_edge.specs.Ranges.{Outside, SameOn}
use Rattle.flash_layout.specs.declared.frame.Frame.{Frame}
use Rattle.flash_layout.specs.declared.frame.TheConstants.{MOST_ENTRIES}
use Rattle.flash_layout.specs.declared.key.Key.{Key}
use Rattle.flash_layout.specs.declared.layout.Entry.{Entry}
use Rattle.flash_layout.specs.declared.slot.Record.{Record}
use Rattle.flash_layout.specs.Configs.{ConfigOf, Configured}
use Rattle.flash_layout.specs.Frames.{IsFrame, bank_size, config_page_of, head_of, head_size, record_place}
use Rattle.rollback_record.specs.Committing.{HasHeldOrNew}
use Rattle.rollback_record.specs.HeadRecord.{IsLoadable}
use Rattle.rollback_record.specs.RecordPage.{IsActiveSlot, record_length}
use Rattle.rollback_record.specs.SoundFlash.{IsInstalled, recorded_bank}
use Rattle.update_proc.specs.Banks.{BesideBank}

-- the envelope is in the bank of the new record, and nothing changed outside its range in the other bank
pub record IsFilled (frame : Frame) (held : Option Record) (new : Record)
    (bytes before made : List ℕ) : Type 0 where
  pub beside : SameOn (BesideBank frame held bytes) before made
  pub holds : recorded_bank frame (head_of frame made) new ≡ bytes

-- a flash of this size that reads like this has the layout and the frame, under some key
abbrev pub HasLayout : Frame → ℕ → List ℕ → List Entry → Type 0
HasLayout frame size image layout =
    (key : Key) × ConfigOf size image (Configured layout key frame)

-- the place is outside the head
abbrev pub BesideHead : Frame → ℕ → Type 0
BesideHead frame = Outside frame.base (head_size frame)

-- at most one record page was changed, and the record is the held one or the new one
pub record IsRecording (frame : Frame) (held : Option Record) (new : Record)
    (made image : List ℕ) : Type 0 where
  pub which : ℕ
  pub two : which < 2
  pub beside : SameOn (Outside (record_place frame which) (record_length frame)) made image
  pub record_is : HasHeldOrNew frame held new image

-- the bank is being written; or it is complete, and the new record is being committed
pub data IsInstalling (frame : Frame) (held : Option Record) (new : Record) (bytes : List ℕ)
    (start : Flash) (image : List ℕ) : Type 0 where
  Filling : ImageOn (BesideBank frame held bytes) start image
      → IsInstalling frame held new bytes start image
  Recording : (made : List ℕ) → IsFilled frame held new bytes start.reads made
      → IsRecording frame held new made image
      → IsInstalling frame held new bytes start image

-- each component of the layout has the slot that is to be in use, and there are zeros after the last
abbrev pub HasActiveSlots : Frame → List ℕ → List ℕ → Type 0
HasActiveSlots frame image active =
    (i : ℕ) → i < MOST_ENTRIES
    → IsActiveSlot frame (config_page_of frame (head_of frame image)) i (slice_index active i)

-- another record may follow this one
abbrev pub IsNotWorn : Record → Type 0
IsNotWorn r = r.generation < 2 ^ 64 - 1

-- a flash of this size may take bytes of that length after the record
pub record MayInstall (frame : Frame) (size : ℕ) (held : Option Record) (bytes : List ℕ)
    : Type 0 where
  pub frame_is : IsFrame size frame
  pub loadable : IfSome held (IsLoadable frame)
  pub worn : IfSome held IsNotWorn
  pub fits : length bytes ≤ bank_size frame

-- under the layout and the key of this image, the bytes may be installed with this record
abbrev pub MayBeInstalled : Frame → List ℕ → List ℕ → Record → Type 0
MayBeInstalled frame image bytes new =
    (layout : List Entry) (key : Key)
    → ConfigOf (length image) image (Configured layout key frame)
    → IsInstalled layout key bytes new
