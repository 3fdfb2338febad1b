-- The record of an image of the flash. Each definition speaks of the image's head alone.
use Rattle.std.specs.Prelude.{◌≡◌, ◌⊎◌, ◌<◌, ◌≤◌, ◌+◌, ◌-◌, ℕ, List, length, slice_range, nat_lt, if◌then◌else◌, Option, Some, None}
use Rattle.flash_layout.specs.declared.frame.Frame.{Frame}
use Rattle.flash_layout.specs.declared.slot.Record.{Record}
pub use Rattle.flash_layout.specs.FaultCounts.{ResultCounts}
use Rattle.flash_layout.specs.Frames.{bank_size, config_page_of, head_size, record_from}
use Rattle.rollback_record.specs.RecordPage.{IsTypedRecord, IsRecordPage, record_length}

-- the bytes that are read of a record page
abbrev pub record_bytes : Frame → List ℕ → ℕ → List ℕ
record_bytes frame head which =
    slice_range head (record_from frame which) (record_from frame which + record_length frame)

-- that page of the head is valid, and holds this record
pub record Counts (frame : Frame) (head : List ℕ) (which : ℕ) (r : Record) : Type 0 where
  pub whole : head_size frame ≤ length head
  pub page : IsRecordPage frame (config_page_of frame head) (record_bytes frame head which) r

-- If both pages are valid, the record is that of the higher generation; if these are equal, it is that of page 0.
abbrev pub IsBelow : ℕ → Record → Record → Type 0
IsBelow which other r =
    (other.generation < r.generation) ⊎ ((which ≡ 0) × (other.generation ≡ r.generation))

-- the head holds this record: a valid page has it, and it wins over a record on the other page
pub record HoldsRecord (frame : Frame) (head : List ℕ) (r : Record) : Type 0 where
  pub which : ℕ
  pub inside : which < 2
  pub counts : Counts frame head which r
  pub highest : (other : Record) → Counts frame head (1 - which) other → IsBelow which other r

-- no record page of the head is valid
abbrev pub HoldsNone : Frame → List ℕ → Type 0
HoldsNone frame head = (which : ℕ) (r : Record) → which < 2 → Counts frame head which r → ⊥

-- the head holds this record, or none
abbrev pub RecordOf : Frame → List ℕ → Option Record → Type 0
RecordOf frame head None = HoldsNone frame head
RecordOf frame head (Some r) = HoldsRecord frame head r

-- ---- what loading returns

-- these are the record pages of the head
pub record HaveRead (frame : Frame) (head first second : List ℕ) : Type 0 where
  pub first_is : first ≡ record_bytes frame head 0
  pub second_is : second ≡ record_bytes frame head 1

-- the bounds of each loaded record, even if the disk does not tell its bytes
pub record IsLoadable (frame : Frame) (r : Record) : Type 0 where
  pub typed : IsTypedRecord r
  pub bank : r.bank < 2
  pub size : r.length ≤ bank_size frame

-- ---- inside

-- the record of two pages
abbrev pub higher : Option Record → Option Record → Option Record
higher None second = second
higher (Some r) None = Some r
higher (Some r) (Some s) = if nat_lt r.generation s.generation then Some s else Some r

-- which page does not hold that record
abbrev pub beside_higher : Option Record → Option Record → ℕ
beside_higher None second = 0
beside_higher (Some r) None = 1
beside_higher (Some r) (Some s) = if nat_lt r.generation s.generation then 0 else 1
