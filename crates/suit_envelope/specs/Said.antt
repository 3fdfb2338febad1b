-- What an envelope of the code says.
use Rattle.std.specs.Prelude.{List, ℕ, option_map}
use Rattle.suit_params.specs.declared.refusal.Refusal.{Refusal}
use Rattle.suit_params.specs.Refusing.{SaysWhole, RefusesWhole}
use Rattle.suit_envelope.specs.Envelopes.{EnvelopeSays, IsEnvelope, RefusesEnvelope}
use Rattle.suit_envelope.specs.EnvelopeReading.{PairsSay}
use Rattle.suit_envelope.specs.declared.envelope.Envelope.{Envelope}
use Rattle.suit_envelope.specs.declared.pairs.Found.{Found}

-- the contents and the places that the envelope's fields give
abbrev pub said_by : Envelope → EnvelopeSays
said_by e = record {
  tagged = e.tagged;
  wrapper = e.wrapper.now;
  wrapper_place = e.wrapper_place;
  manifest = e.manifest.now;
  manifest_place = e.manifest_place;
  payload_fetch = option_map (λ s. s.now) e.payload_fetch;
  payload_fetch_place = e.payload_fetch_place;
  install = option_map (λ s. s.now) e.install;
  install_place = e.install_place;
  text = option_map (λ s. s.now) e.text;
}

-- what the pairs that the code has read say
abbrev pub pairs_say : Found → PairsSay
pairs_say f = record { seen = f.seen; said = said_by f.envelope; judged = f.judged }

-- the bytes spell an envelope that says this
abbrev pub EnvelopeOf : List ℕ → EnvelopeSays → Type 0
EnvelopeOf bytes said = SaysWhole IsEnvelope 0 bytes said

-- the bytes are refused as an envelope, with this refusal
abbrev pub RefusesBytes : List ℕ → Refusal → Type 0
RefusesBytes bytes r = RefusesWhole RefusesEnvelope 0 bytes r
