-- Laws of each record page and of each head.
use Rattle.std.specs.Prelude.{◌≡◌, ℕ, List, Option}
use Rattle.flash_layout.specs.declared.frame.Frame.{Frame}
use Rattle.flash_layout.specs.declared.frame.TheConstants.{VERSION_1}
use Rattle.flash_layout.specs.declared.slot.Record.{Record}
use Rattle.flash_layout.specs.Roots.{second_frame}
use Rattle.rollback_record.specs.RecordPage.{IsRecordPage, record_length}
use Rattle.rollback_record.specs.HeadRecord.{RecordOf}

-- a page holds at most one record
abbrev pub OneRecord : Type 0
OneRecord = (frame : Frame) (config page : List ℕ) (r s : Record) → IsRecordPage frame config page r → IsRecordPage frame config page s → r ≡ s

-- a head has at most one record
abbrev pub OneAnswer : Type 0
OneAnswer = (frame : Frame) (head : List ℕ) (a b : Option Record) → RecordOf frame head a → RecordOf frame head b → a ≡ b

-- each head has a record, or none
abbrev pub SomeAnswer : Type 0
SomeAnswer = (frame : Frame) (head : List ℕ) → (o : Option Record) × RecordOf frame head o

-- how many bytes of a record page are read, by the version of the layout
pub record RecordLengths : Type 0 where
  pub first : record_length VERSION_1 ≡ 99
  pub second : (base : ℕ) → record_length (second_frame base) ≡ 123
