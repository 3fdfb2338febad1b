-- Trimmed envelopes (draft-ietf-suit-manifest-25, section 8.2: only the wrapper and the manifest).
use Rattle.std.specs.Prelude.{◌≡◌, ◌<◌, ℕ, List, length, take}
use Rattle.suit_envelope.specs.Envelopes.{EnvelopeSays}
use Rattle.suit_envelope.specs.Said.{EnvelopeOf}
use Rattle.suit_envelope.specs.Trimmed.{trimmed}

abbrev pub trimmed_bytes : EnvelopeSays → List ℕ
trimmed_bytes said = trimmed said.wrapper said.manifest

-- this many bytes at the front of the room are the trimmed envelope of the bytes
pub record AreTrimmed (bytes room : List ℕ) (count : ℕ) : Type 0 where
  pub said : EnvelopeSays
  pub envelope : EnvelopeOf bytes said
  pub trimmed : take count room ≡ trimmed_bytes said
  pub whole : count ≡ length (trimmed_bytes said)

-- the trimmed envelope has this many bytes, and the room has fewer
pub record HasNoRoom (bytes room : List ℕ) (count : ℕ) : Type 0 where
  pub said : EnvelopeSays
  pub envelope : EnvelopeOf bytes said
  pub short : length room < count
  pub whole : count ≡ length (trimmed_bytes said)
