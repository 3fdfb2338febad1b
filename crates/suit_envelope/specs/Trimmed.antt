-- The trimmed envelope: tag 107 around a map with only the wrapper and the manifest.
use Rattle.std.specs.Prelude.{ℕ, ◌+◌, true, List, length, None}
use Rattle.det_cbor.specs.DataItem.{DataItem, UnsignedInteger, ByteString, MapOf, TaggedItem, NoPairs, PairThen, spell}
use Rattle.suit_params.specs.Refusing.{content_place}
use Rattle.suit_envelope.specs.Envelopes.{EnvelopeSays}
use Rattle.suit_envelope.specs.Said.{EnvelopeOf}

-- the envelope as an item
abbrev pub trimmed_item : List ℕ → List ℕ → DataItem
trimmed_item wrapper manifest =
    TaggedItem 107
    (MapOf
    (PairThen (UnsignedInteger 2) (ByteString wrapper)
    (PairThen (UnsignedInteger 3) (ByteString manifest) NoPairs)))

-- the bytes of the trimmed envelope
unfoldable pub trimmed : List ℕ → List ℕ → List ℕ
trimmed wrapper manifest = spell (trimmed_item wrapper manifest)

-- what it says: before the wrapper are a tag of two bytes, the map's head and a key, and before the manifest
-- a key
abbrev pub trimmed_says : List ℕ → List ℕ → EnvelopeSays
trimmed_says wrapper manifest = record {
  tagged = true;
  wrapper = wrapper;
  wrapper_place = content_place 4 wrapper;
  manifest = manifest;
  manifest_place = content_place (4 + length (spell (ByteString wrapper)) + 1) manifest;
  payload_fetch = None;
  payload_fetch_place = 0;
  install = None;
  install_place = 0;
  text = None;
}

-- the bytes spell the envelope that has only these two parts
abbrev pub IsTrimmed : List ℕ → List ℕ → List ℕ → Type 0
IsTrimmed wrapper manifest bytes = EnvelopeOf bytes (trimmed_says wrapper manifest)
