-- Envelopes that are authentic under a key (draft-ietf-suit-manifest-25, section 8.3; RFC 9052, section 6.3).
use Rattle.std.specs.Prelude.{ℕ, List}
use Rattle.suit_envelope.specs.Authentic.{IsAuthentic}
use Rattle.suit_envelope.specs.Envelopes.{EnvelopeSays}
use Rattle.suit_envelope.specs.Said.{EnvelopeOf}

-- the bytes spell an envelope that is authentic under the key
pub record IsAuthenticFile (bytes key : List ℕ) : Type 0 where
  pub said : EnvelopeSays
  pub envelope : EnvelopeOf bytes said
  pub authentic : IsAuthentic said.wrapper said.manifest key

-- the bytes spell an envelope that is not authentic under the key
pub record IsNoAuthenticFile (bytes key : List ℕ) : Type 0 where
  pub said : EnvelopeSays
  pub envelope : EnvelopeOf bytes said
  pub not_authentic : IsAuthentic said.wrapper said.manifest key → ⊥
