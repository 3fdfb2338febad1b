-- The bank that an envelope is written to. These definitions are this project's own.
use Rattle.std.specs.Prelude.{◌-◌, if◌then◌else◌, ℕ, Bool, false, List, length, Option, Some, None}
use Rattle.std.specs.Str.{bytes_eq}
use Rattle.suit_edge.specs.Ranges.{Outside}
use Rattle.flash_layout.specs.declared.frame.Frame.{Frame}
use Rattle.flash_layout.specs.declared.slot.Record.{Record}
use Rattle.flash_layout.specs.Frames.{bank_place, head_of}
use Rattle.rollback_record.specs.SoundFlash.{recorded_bank}

-- the bank that the record does not name, or the first one if there is no record
abbrev pub other_bank : Option Record → ℕ
other_bank None = 0
other_bank (Some r) = 1 - r.bank

-- in this image the record's bank holds just these bytes already
abbrev pub is_kept : Frame → Option Record → List ℕ → List ℕ → Bool
is_kept frame None image bytes = false
is_kept frame (Some r) image bytes =
    bytes_eq (recorded_bank frame (head_of frame image) r) bytes

-- the record's own bank if it holds the bytes already, and otherwise the other one
abbrev pub bank_for : Frame → Option Record → List ℕ → List ℕ → ℕ
bank_for frame None image bytes = 0
bank_for frame (Some r) image bytes =
    if is_kept frame (Some r) image bytes then r.bank else 1 - r.bank

-- the place is outside the range that the envelope takes in the other bank
abbrev pub BesideBank : Frame → Option Record → List ℕ → ℕ → Type 0
BesideBank frame held bytes i = Outside (bank_place frame (other_bank held)) (length bytes) i
