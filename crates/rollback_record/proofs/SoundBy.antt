-- A sound image by the frame that it tells.
use Rattle.std.proofs.Common.{ℕ, List, length, Some, None, subst}
use Rattle.flash_layout.specs.declared.frame.Frame.{Frame}
use Rattle.flash_layout.specs.declared.key.Key.{Key}
use Rattle.flash_layout.specs.declared.layout.Entry.{Entry}
use Rattle.flash_layout.specs.declared.slot.Record.{Record}
use Rattle.flash_layout.specs.Configs.{ConfigOf, Blank, Configured}
use Rattle.flash_layout.specs.Frames.{head_of}
use Rattle.flash_layout.specs.ToldFrames.{IsTold, by_told}
use Rattle.rollback_record.specs.HeadRecord.{RecordOf}
use Rattle.rollback_record.specs.SoundFlash.{IsInstalled, Sound, SoundBlank, SoundEmpty, SoundInstalled, recorded_bank}

pub data SoundBy (frame : Frame) (image : List ℕ) : Type 0 where
  BlankBy : ConfigOf (length image) image Blank → SoundBy frame image
  EmptyBy : (layout : List Entry) (key : Key) → ConfigOf (length image) image (Configured layout key frame)
      → RecordOf frame (head_of frame image) None → SoundBy frame image
  InstalledBy : (layout : List Entry) (key : Key) (r : Record) → ConfigOf (length image) image (Configured layout key frame)
      → RecordOf frame (head_of frame image) (Some r) → IsInstalled layout key (recorded_bank frame (head_of frame image) r) r → SoundBy frame image

-- by the frame that it tells
pub sound_by : (frame : Frame) (image : List ℕ) → IsTold (length image) image frame → Sound image → SoundBy frame image
sound_by frame image told (SoundBlank is) = BlankBy is
sound_by frame image told (SoundEmpty layout key other is none) =
    EmptyBy layout key (by_told (length image) image frame told layout key other is)
    (subst (λ (f : Frame). RecordOf f (head_of f image) None) (told layout key other is) none)
sound_by frame image told (SoundInstalled layout key other r is held installed) =
    let same = told layout key other is in
    InstalledBy layout key r (by_told (length image) image frame told layout key other is)
    (subst (λ (f : Frame). RecordOf f (head_of f image) (Some r)) same held)
    (subst (λ (f : Frame). IsInstalled layout key (recorded_bank f (head_of f image) r) r) same installed)
