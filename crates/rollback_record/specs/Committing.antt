-- What a commit does to the flash.
use Rattle.std.specs.Prelude.{◌≡◌, ◌⊎◌, ◌<◌, ◌+◌, ◌-◌, ℕ, List, slice_index, Option, Some, None}
use Rattle.suit_edge.specs.Flash.{Flash, Keeps}
use Rattle.suit_edge.specs.Gate.{IsGate}
use Rattle.suit_edge.specs.Ranges.{Within, Outside}
use Rattle.flash_layout.specs.declared.frame.Frame.{Frame}
use Rattle.flash_layout.specs.declared.frame.TheConstants.{HEAD_SIZE}
use Rattle.flash_layout.specs.declared.slot.Record.{Record}
use Rattle.flash_layout.specs.Frames.{head_of, head_size, record_from, record_place}
use Rattle.rollback_record.specs.declared.spare.RecordPages.{RecordPages}
use Rattle.rollback_record.specs.declared.spare.Spare.{Spare}
use Rattle.rollback_record.specs.HeadRecord.{Counts, RecordOf}
use Rattle.rollback_record.specs.RecordPage.{record_length}

-- the place is in the head: in the first bytes of the flash, which tell the frame, or in the head of that frame; in
-- version 1 these are the same
abbrev pub InHead : Frame → ℕ → Type 0
InHead frame i = Within 0 HEAD_SIZE i ⊎ Within frame.base (head_size frame) i

-- the generation of a record is one above that of the record before, and 1 for the first record
abbrev pub IsNext : Option Record → Record → Type 0
IsNext None new = new.generation ≡ 1
IsNext (Some r) new = new.generation ≡ r.generation + 1

-- the image has the held record or the new one
abbrev pub HasHeldOrNew : Frame → Option Record → Record → List ℕ → Type 0
HasHeldOrNew frame held new image =
    RecordOf frame (head_of frame image) held ⊎ RecordOf frame (head_of frame image) (Some new)

-- the record page that may be written: the first one if there is no record, and else the one that does not hold the
-- record
abbrev pub IsSpare : Frame → List ℕ → Option Record → ℕ → Type 0
IsSpare frame head None which = which ≡ 0
IsSpare frame head (Some r) which = (which < 2) × Counts frame head (1 - which) r

-- that page may be written next to this record, and its gate reads like this
pub record HasSpare (frame : Frame) (head : List ℕ) (held : Option Record) (spare : Spare)
    : Type 0 where
  pub free : IsSpare frame head held spare.which
  pub gate : IsGate spare.gate (slice_index head (record_from frame spare.which))

-- the head has this record, and that page may be written next to it
pub record HasPages (frame : Frame) (head : List ℕ) (pages : RecordPages) : Type 0 where
  pub held : RecordOf frame head pages.held
  pub spare : HasSpare frame head pages.held pages.spare

-- nothing but the spare page changed, as the disk reads and in each image since
pub record KeepsBesideSpare (frame : Frame) (held : Option Record) (old new : Flash) : Type 0 where
  pub which : ℕ
  pub spare : IsSpare frame (head_of frame old.reads) held which
  pub keeps : Keeps (Outside (record_place frame which) (record_length frame)) old new
