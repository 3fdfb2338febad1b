-- The record of a flash, by the one frame that it has.
use Rattle.std.specs.Prelude.{◌≡◌, ℕ, List, Option, Some, None, Result, Ok, Err, IfOk, length}
use Rattle.std.proofs.Common.{subst}
use Rattle.flash_layout.specs.Configs.{FrameOf}
use Rattle.flash_layout.specs.Frames.{head_of}
use Rattle.flash_layout.specs.declared.frame.Frame.{Frame}
use Rattle.flash_layout.specs.declared.slot.FlashFault.{FlashFault}
use Rattle.flash_layout.specs.declared.slot.Record.{Record}
use Rattle.rollback_record.specs.HeadRecord.{HoldsNone, RecordOf}
use Rattle.suit_c.specs.Recorded.{HasFrame, HasNoRecord, HasRecorded}

pub no_frame : (flash : List ℕ) → FrameOf (length flash) flash None → HasNoRecord flash
no_frame flash none frame has = absurd (none frame has.0 has.1)

module _ (flash : List ℕ) (frame : Frame) (has : HasFrame flash frame) where
  one_frame : (other : Frame) → HasFrame flash other → frame ≡ other
  one_frame other there = cc (has.1, there.1)

  told : (o : Option Record) → RecordOf frame (head_of frame flash) o → HasRecorded flash o
  told None none = λ other there. subst (λ (f : Frame). HoldsNone f (head_of f flash)) (one_frame other there) none
  told (Some r) holds = record { frame = frame; has = has; holds = holds }

  pub recorded : (result : Result (Option Record) FlashFault) → IfOk result (RecordOf frame (head_of frame flash)) → IfOk result (HasRecorded flash)
  recorded (Ok o) found = told o found
  recorded (Err e) found = found
