-- The parts of an envelope end within its bytes, and are made of bytes.
use Rattle.std.specs.Prelude.{◌<◌, ◌+◌, ℕ, List, length, Option, Some, None, IfSome}
use Rattle.det_cbor.specs.DataItem.{IsString}
use Rattle.suit_envelope.specs.Envelopes.{EnvelopeSays}

-- a part that is there ends below the limit
abbrev pub EndsBelow : ℕ → Option (List ℕ) → ℕ → Type 0
EndsBelow limit None place = Unit {0}
EndsBelow limit (Some content) place = place + length content < limit

-- payload-fetch and install end below the limit
pub record MembersEndBelow (limit : ℕ) (said : EnvelopeSays) : Type 0 where
  pub payload_fetch : EndsBelow limit said.payload_fetch said.payload_fetch_place
  pub install : EndsBelow limit said.install said.install_place

-- the wrapper, the manifest, and those two members end below the limit
pub record PartsEndBelow (limit : ℕ) (said : EnvelopeSays) : Type 0 where
  pub wrapper : said.wrapper_place + length said.wrapper < limit
  pub manifest : said.manifest_place + length said.manifest < limit
  pub members : MembersEndBelow limit said

-- the content of each part is that of a string
pub record PartsAreStrings (said : EnvelopeSays) : Type 0 where
  pub wrapper : IsString said.wrapper
  pub manifest : IsString said.manifest
  pub payload_fetch : IfSome said.payload_fetch IsString
  pub install : IfSome said.install IsString
  pub text : IfSome said.text IsString
