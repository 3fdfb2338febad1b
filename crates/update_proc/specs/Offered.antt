-- The record that the flash has when an update comes, and the digest that the envelope states of its manifest
-- (draft-ietf-suit-manifest-25, section 8.3).
use Rattle.std.specs.Prelude.{ℕ, List, Option}
use Rattle.suit_envelope.specs.WrapperParts.{WrapperSays}
use Rattle.suit_params.specs.declared.digest.Digest.{Digest}
use Rattle.flash_layout.specs.declared.frame.Frame.{Frame}
use Rattle.flash_layout.specs.declared.slot.Record.{Record}
use Rattle.flash_layout.specs.Frames.{head_of}
use Rattle.rollback_record.specs.HeadRecord.{RecordOf}

-- P holds of the record of this image, and of the digest that this wrapper states
abbrev pub ForOffer : Frame → List ℕ → List ℕ → (Option Record → Digest → Type 0) → Type 0
ForOffer frame image wrapper P =
    (held : Option Record) (digest : Digest) (blocks : List (List ℕ))
    → RecordOf frame (head_of frame image) held
    → WrapperSays wrapper digest blocks → P held digest
