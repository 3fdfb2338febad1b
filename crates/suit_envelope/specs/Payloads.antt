-- Integrated payloads (draft-ietf-suit-manifest-25, section 8.2): byte strings of an envelope's map whose
-- keys are texts.
use Rattle.std.specs.Prelude.{◌≡◌, ℕ, if◌then◌else◌, List, [], ◌∷◌, Option, Some, None}
use Rattle.std.specs.Str.{bytes_eq}
use Rattle.det_cbor.specs.DataItem.{DataItem, TextString, ByteString}
use Rattle.suit_envelope.specs.Envelopes.{Entry, EnvelopeSays, map_entries}
use Rattle.suit_envelope.specs.Said.{EnvelopeOf}

-- a text with a byte string is a payload, which comes before the others
abbrev pub payload_then : DataItem → DataItem → List (List ℕ × List ℕ) → List (List ℕ × List ℕ)
payload_then (TextString key) (ByteString content) others = (key, content) ∷ others
payload_then _ _ others = others

-- the payloads among the entries of a map: each key with its content
abbrev pub integrated_payloads : List Entry → List (List ℕ × List ℕ)
integrated_payloads [] = []
integrated_payloads (e ∷ es) = payload_then e.key e.value (integrated_payloads es)

-- the bytes spell an envelope with these payloads
pub record HasPayloads (bytes : List ℕ) (payloads : List (List ℕ × List ℕ)) : Type 0 where
  pub said : EnvelopeSays
  pub envelope : EnvelopeOf bytes said
  pub are : payloads ≡ integrated_payloads (map_entries envelope.says_so.map)

-- the content under this key, if there is one
abbrev pub payload_under : List (List ℕ × List ℕ) → List ℕ → Option (List ℕ)
payload_under [] key = None
payload_under (p ∷ ps) key = if bytes_eq p.0 key then Some p.1 else payload_under ps key
