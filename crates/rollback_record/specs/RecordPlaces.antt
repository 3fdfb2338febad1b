-- The places of the fields on a record page. All numbers are big-endian.
use Rattle.std.specs.Prelude.{◌≡◌, ◌+◌, ◌-◌, ℕ, List, drop, length, replicate, slice_index, slice_range, take}
use Rattle.suit_params.specs.DigestBytes.{digest_bytes, digest_kind}
use Rattle.suit_params.specs.DigestKinds.{size_of}
use Rattle.flash_layout.specs.declared.frame.Frame.{Frame}
use Rattle.flash_layout.specs.declared.slot.Record.{Record}
use Rattle.flash_layout.specs.Frames.{most}
use Rattle.flash_layout.specs.PagePlaces.{IsNumberField}
use Rattle.rollback_record.specs.RecordPage.{IsRecordPage, record_length}

-- the page has the fields of the record at these places
pub record HasRecordPlaces (frame : Frame) (r : Record) (page : List ℕ) : Type 0 where
  pub long : length page ≡ record_length frame
  pub gate : slice_index page 0 ≡ 0xA5
  pub generation : IsNumberField r.generation (slice_range page 1 9)
  pub sequence : IsNumberField r.sequence (slice_range page 9 17)
  pub bank : slice_index page 17 ≡ r.bank
  pub size : IsNumberField r.length (slice_range page 18 26)
  pub digest_size : slice_index page 26 ≡ size_of (digest_kind r.digest)
  pub digest : slice_range page 27 (27 + size_of (digest_kind r.digest)) ≡ digest_bytes r.digest
  pub rest : slice_range page (27 + size_of (digest_kind r.digest)) 91
      ≡ replicate (64 - size_of (digest_kind r.digest)) 0
  pub active : slice_range page 91 (record_length frame) ≡ take (most frame) r.active
  pub unborne : drop (most frame) r.active ≡ replicate (32 - most frame) 0

-- each record page has its fields at these places
abbrev pub RecordPlaces : Type 0
RecordPlaces =
    (frame : Frame) (config page : List ℕ) (r : Record) → IsRecordPage frame config page r
    → HasRecordPlaces frame r page
