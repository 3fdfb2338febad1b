-- Laws of sound flashes.
use Rattle.std.specs.Prelude.{◌≡◌, ◌⊎◌, ◌<◌, ℕ, List, length, Option, Some, None, IfSome}
use Rattle.suit_edge.specs.Ranges.{Outside, SameOn, Within}
use Rattle.flash_layout.specs.declared.frame.Frame.{Frame}
use Rattle.flash_layout.specs.declared.frame.TheConstants.{CONFIG_GATE, ROOT_BYTES, ROOT_GATE}
use Rattle.flash_layout.specs.declared.key.Key.{Key}
use Rattle.flash_layout.specs.declared.layout.Entry.{Entry}
use Rattle.flash_layout.specs.declared.slot.Record.{Record}
use Rattle.flash_layout.specs.Configs.{ConfigOf, Configured}
use Rattle.flash_layout.specs.Formats.{IsFormatted}
use Rattle.flash_layout.specs.Frames.{HasNoRecord, IsFrame, bank_from, bank_place, config_page_of, head_of, record_place}
use Rattle.flash_layout.specs.ToldFrames.{HasSameHead, IsTold}
use Rattle.rollback_record.specs.HeadRecord.{RecordOf}
use Rattle.rollback_record.specs.Committing.{HasHeldOrNew, InHead}
use Rattle.rollback_record.specs.RecordPage.{IsInRange, record_length}
use Rattle.rollback_record.specs.SoundFlash.{Follows, IsInstalled, IsNoEarlier, Sound, recorded_bank}

-- the fields of the new record are in range, by the configuration page of the image
abbrev pub HasNewInRange : Frame → List ℕ → Record → Type 0
HasNewInRange frame image new = IsInRange frame (config_page_of frame (head_of frame image)) new

-- the bank that the new record names holds the installed envelope, on the flash as it was before the commit
abbrev pub IsInstalledFor : List ℕ → Record → Type 0
IsInstalledFor image new = (layout : List Entry) (key : Key) (frame : Frame) → ConfigOf (length image) image (Configured layout key frame)
    → IsInstalled layout key (recorded_bank frame (head_of frame image) new) new

-- the image's flash has this frame, and the image tells it
pub record HasFrame (frame : Frame) (image : List ℕ) : Type 0 where
  pub is : IsFrame (length image) frame
  pub told : IsTold (length image) image frame

-- The image is one that a commit may leave: in the head nothing has changed but one record page, and the record is the
-- held one or the new one.
pub record IsCommitted (frame : Frame) (held : Option Record) (new : Record)
    (before image : List ℕ) : Type 0 where
  pub frame_is : HasFrame frame before
  pub was : RecordOf frame (head_of frame before) held
  pub which : ℕ
  pub two : which < 2
  pub beside :
      SameOn (λ i. InHead frame i × Outside (record_place frame which) (record_length frame) i)
      before image
  pub record_is : HasHeldOrNew frame held new image

-- the place tells the frame: it is the gate of version 1, or in the root
abbrev pub TellsFrame : ℕ → Type 0
TellsFrame i = (i ≡ CONFIG_GATE) ⊎ Within ROOT_GATE ROOT_BYTES i

-- the place says what is recorded: it tells the frame, or is in the configuration page or the record pages, or in the
-- bytes of the recorded envelope
abbrev pub SaysRecorded : Frame → Option Record → ℕ → Type 0
SaysRecorded frame None i = TellsFrame i ⊎ Within frame.base (bank_from frame 0) i
SaysRecorded frame (Some r) i =
    TellsFrame i ⊎ Within frame.base (bank_from frame 0) i
    ⊎ Within (bank_place frame r.bank) r.length i

-- The image is sound, has the same record as the one before, and follows it.
pub record IsStillSound (frame : Frame) (held : Option Record) (before image : List ℕ)
    : Type 0 where
  pub sound : Sound image
  pub held_is : RecordOf frame (head_of frame image) held
  pub follows : Follows before image

pub record SoundLaws : Type 0 where
  -- if both gates are closed, there is no record
  pub no_record : (frame : Frame) (head : List ℕ) → HasNoRecord frame head
      → RecordOf frame head None
  -- formatting leaves a sound image
  pub formatted : (frame : Frame) (layout : List Entry) (key : Key) (image : List ℕ)
      → IsFormatted frame (length image) layout key image → Sound image
  -- a commit leaves a sound image, which follows the one before
  pub committed : (frame : Frame) (held : Option Record) (new : Record) (before image : List ℕ)
      → IsCommitted frame held new before image → HasNewInRange frame before new
      → IsInstalledFor before new → Sound before → Sound image
  pub follows : (frame : Frame) (held : Option Record) (new : Record) (before image : List ℕ)
      → IsCommitted frame held new before image → IfSome held (λ r. IsNoEarlier r new)
      → Sound before → Follows before image
  -- if nothing changes that says what is recorded, the image stays sound, whatever is written to the other bank and to
  -- slots
  pub kept : (frame : Frame) (held : Option Record) (before image : List ℕ)
      → HasFrame frame before → RecordOf frame (head_of frame before) held
      → SameOn (SaysRecorded frame held) before image → Sound before
      → IsStillSound frame held before image
  -- whether an image is sound depends on its head alone
  pub same : (image other : List ℕ) → HasSameHead image other → Sound image → Sound other
  -- a sound image follows itself, and following is transitive
  pub itself : (a : List ℕ) → Sound a → Follows a a
  pub onward : (a b c : List ℕ) → Follows a b → Follows b c → Follows a c
