-- The record of an update. These definitions are this project's own.
use Rattle.std.specs.Prelude.{◌+◌, ℕ, List, length, Option, Some, None}
use Rattle.suit_params.specs.declared.digest.Digest.{Digest}
use Rattle.flash_layout.specs.declared.frame.Frame.{Frame}
use Rattle.flash_layout.specs.declared.slot.Record.{Record}
use Rattle.update_proc.specs.Banks.{bank_for}

-- the generation after that of the held record, or 1 if there is no record
abbrev pub next_generation : Option Record → ℕ
next_generation None = 1
next_generation (Some r) = r.generation + 1

-- the record of an update: the envelope has these bytes, its manifest this number and digest, and these slots are in
-- use; the image is that of the flash before
abbrev pub new_record : Frame → Option Record → List ℕ → List ℕ → ℕ → Digest → List ℕ → Record
new_record frame held image bytes sequence digest active = record {
  generation = next_generation held;
  sequence = sequence;
  bank = bank_for frame held image bytes;
  length = length bytes;
  digest = digest;
  active = active;
}
