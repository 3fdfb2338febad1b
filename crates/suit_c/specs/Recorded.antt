-- The record of a flash, as it is told to C.
use Rattle.std.specs.Prelude.{◌≡◌, ℕ, List, Option, Some, None, length}
use Rattle.flash_layout.specs.ConfigPage.{padded}
use Rattle.flash_layout.specs.Configs.{FrameOf}
use Rattle.flash_layout.specs.Frames.{head_of}
use Rattle.flash_layout.specs.declared.frame.Frame.{Frame}
use Rattle.flash_layout.specs.declared.slot.Record.{Record}
use Rattle.suit_params.specs.DigestBytes.{digest_bytes, digest_kind}
use Rattle.suit_params.specs.DigestKinds.{size_of}
use Rattle.rollback_record.specs.HeadRecord.{HoldsNone, HoldsRecord}
use Rattle.suit_c.specs.declared.status.SuitRecord.{SuitRecord}

-- this is what C is told of a record
pub record IsRecordAs (r : Record) (out : SuitRecord) : Type 0 where
  pub sequence : out.sequence ≡ r.sequence
  pub generation : out.generation ≡ r.generation
  pub size : out.length ≡ r.length
  pub bank : out.bank ≡ r.bank
  pub digest : out.digest ≡ padded 64 (digest_bytes r.digest)
  pub digest_length : out.digest_length ≡ size_of (digest_kind r.digest)
  pub active : out.active ≡ r.active

-- the flash has this frame
abbrev pub HasFrame : List ℕ → Frame → Type 0
HasFrame flash frame = FrameOf (length flash) flash (Some frame)

-- the head of the flash holds this record
pub record HasRecord (flash : List ℕ) (r : Record) : Type 0 where
  pub frame : Frame
  pub has : HasFrame flash frame
  pub holds : HoldsRecord frame (head_of frame flash) r

-- the flash has no frame, or its head holds no record
abbrev pub HasNoRecord : List ℕ → Type 0
HasNoRecord flash = (frame : Frame) → HasFrame flash frame → HoldsNone frame (head_of frame flash)

abbrev pub HasRecorded : List ℕ → Option Record → Type 0
HasRecorded flash None = HasNoRecord flash
HasRecorded flash (Some r) = HasRecord flash r

-- this is what C is told of the record of the flash
abbrev pub IsRecordedAs : List ℕ → SuitRecord → Type 0
IsRecordedAs flash out = (r : Record) × HasRecord flash r × IsRecordAs r out
