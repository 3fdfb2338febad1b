-- The envelope that is made from its parts (draft-ietf-suit-manifest-25, section 8.2).
use Rattle.std.specs.Prelude.{◌≡◌, ℕ, true, List, [], ◌∷◌, Option, Some, None}
use Rattle.std.specs.Str.{IsUtf8}
use Rattle.det_cbor.specs.DataItem.{DataItem, UnsignedInteger, ByteString, TextString, MapOf, TaggedItem, DataPairs, NoPairs, PairThen, IsString}
use Rattle.suit_envelope.specs.Envelopes.{EnvelopeSays}
use Rattle.suit_envelope.specs.Said.{EnvelopeOf}
use Rattle.suit_envelope.specs.declared.parts.EnvelopeParts.{EnvelopeParts}

-- a member, if it is there, comes before the other pairs
abbrev pub member_then : ℕ → Option (List ℕ) → DataPairs → DataPairs
member_then key None ps = ps
member_then key (Some content) ps = PairThen (UnsignedInteger key) (ByteString content) ps

-- each payload as a text and a byte string
abbrev pub payload_pairs : List (List ℕ × List ℕ) → DataPairs
payload_pairs [] = NoPairs
payload_pairs (p ∷ ps) = PairThen (TextString p.0) (ByteString p.1) (payload_pairs ps)

-- the pairs: the members by number, and then the payloads in the order of their list
abbrev pub pairs_made : EnvelopeParts → DataPairs
pairs_made parts =
    PairThen (UnsignedInteger 2) (ByteString parts.wrapper)
    (PairThen (UnsignedInteger 3) (ByteString parts.manifest)
    (member_then 16 parts.payload_fetch
    (member_then 20 parts.install
    (member_then 23 parts.text
    (payload_pairs parts.payloads)))))

-- the map of these pairs in tag 107
abbrev pub envelope_made : EnvelopeParts → DataItem
envelope_made parts = TaggedItem 107 (MapOf (pairs_made parts))

-- ---- the parts of an envelope that is made

-- a text as the types of the code hold it
abbrev pub IsText : List ℕ → Type 0
IsText text = IsString text × IsUtf8 text

-- a payload with its key
abbrev pub IsPayload : List ℕ × List ℕ → Type 0
IsPayload p = IsText p.0 × IsString p.1

-- an envelope says what the parts are
pub record SaysParts (parts : EnvelopeParts) (said : EnvelopeSays) : Type 0 where
  pub tagged : said.tagged ≡ true
  pub wrapper : said.wrapper ≡ parts.wrapper
  pub manifest : said.manifest ≡ parts.manifest
  pub payload_fetch : said.payload_fetch ≡ parts.payload_fetch
  pub install : said.install ≡ parts.install
  pub text : said.text ≡ parts.text

-- these bytes spell an envelope that says what the parts are
abbrev pub SpellsParts : EnvelopeParts → List ℕ → Type 0
SpellsParts parts bytes = (said : EnvelopeSays) × (EnvelopeOf bytes said × SaysParts parts said)
