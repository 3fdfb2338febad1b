-- Laws of all envelopes, whichever function reads them (draft-ietf-suit-manifest-25, section 8.2).
use Rattle.std.specs.Prelude.{◌<◌, ℕ, List, length}
use Rattle.det_cbor.specs.DataItem.{IsString}
use Rattle.suit_params.specs.declared.digest.Digest.{Digest}
use Rattle.suit_params.specs.OneWhole.{HasOneAnswer}
use Rattle.suit_envelope.specs.Authentic.{AnswersAuthentic, TellSame}
use Rattle.suit_envelope.specs.declared.authenticity.Authenticity.{Authenticity}
use Rattle.suit_envelope.specs.Envelopes.{EnvelopeSays, IsEnvelope, RefusesEnvelope, map_entries}
use Rattle.suit_envelope.specs.EntriesSay.{SaysEntries}
pub use Rattle.suit_envelope.specs.PayloadOrder.{PayloadOrderLaw}
use Rattle.suit_envelope.specs.Places.{PartsEndBelow, PartsAreStrings}
use Rattle.suit_envelope.specs.Said.{EnvelopeOf}
use Rattle.suit_envelope.specs.Trimmed.{trimmed, IsTrimmed}
use Rattle.suit_envelope.specs.WrapperParts.{HasWrapper}

-- Any bytes are exactly one envelope or have exactly one refusal. An envelope says what is under the numbers
-- of its map, its wrapper is valid, and its parts end within its bytes and are byte strings. The trimmed
-- envelope says its two parts.
pub record EnvelopeLaws : Type 0 where
  pub whole : HasOneAnswer IsEnvelope RefusesEnvelope
  pub entries : (bytes : List ℕ) (said : EnvelopeSays) (envelope : EnvelopeOf bytes said)
      → SaysEntries (map_entries envelope.says_so.map) said
  pub wrapper : (bytes : List ℕ) (said : EnvelopeSays) → EnvelopeOf bytes said
      → HasWrapper said.wrapper
  pub ends : (bytes : List ℕ) (said : EnvelopeSays) (limit : ℕ) → EnvelopeOf bytes said
      → length bytes < limit → PartsEndBelow limit said
  pub strings : (bytes : List ℕ) (said : EnvelopeSays) → EnvelopeOf bytes said
      → PartsAreStrings said
  pub trims : (wrapper manifest : List ℕ) → HasWrapper wrapper → IsString wrapper
      → IsString manifest → IsTrimmed wrapper manifest (trimmed wrapper manifest)

-- any two answers for the same wrapper, manifest and key say the same
abbrev pub AuthenticityLaw : Type 0
AuthenticityLaw =
    (digest : Digest) (blocks : List (List ℕ)) (manifest key : List ℕ) (a b : Authenticity)
    → AnswersAuthentic digest blocks manifest key a
    → AnswersAuthentic digest blocks manifest key b → TellSame a b
