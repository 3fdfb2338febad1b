-- How the parts of a COSE_Mac0 follow each other.
use Rattle.std.specs.Prelude.{◌≡◌, ◌<◌, ◌^◌, ℕ, List, [], ◌++◌, length}
use Rattle.det_cbor.specs.DataItem.{ByteString, MapOf, NullItem, DataPairs, spell, IsValid}
use Rattle.det_cbor.specs.HeadSpelling.{BeginsWith}
use Rattle.det_cbor.specs.declared.head.HeadKind.{HeadKind}
use Rattle.hmac_mac0.specs.Mac0.{mac0_item}

-- the bytes begin with a head of this kind
abbrev pub BeginsWithKind : HeadKind → List ℕ → Type 0
BeginsWithKind kind bytes =
    (value : ℕ) × (rest : List ℕ) × BeginsWith bytes (record { kind = kind; value = value }) rest

-- the bytes are a byte string with this content, and then the rest
pub record StartsWithString (bytes content rest : List ℕ) : Type 0 where
  pub short : length content < 2 ^ 64
  pub parts : bytes ≡ spell (ByteString content) ++ rest

-- the bytes are a map, and then the rest
pub record StartsWithMap (bytes rest : List ℕ) : Type 0 where
  pub pairs : DataPairs
  pub valid : IsValid (MapOf pairs)
  pub parts : bytes ≡ spell (MapOf pairs) ++ rest

-- the bytes are null, and then the rest
abbrev pub StartsWithNull : List ℕ → List ℕ → Type 0
StartsWithNull bytes rest = bytes ≡ spell NullItem ++ rest

-- what follows the protected header: a map, null and the tag
pub record EndsWithTag (bytes tag : List ℕ) : Type 0 where
  pub unprotected : DataPairs
  pub map : IsValid (MapOf unprotected)
  pub short : length tag < 2 ^ 64
  pub parts :
      bytes ≡ spell (MapOf unprotected) ++ (spell NullItem ++ (spell (ByteString tag) ++ []))

-- the block has these parts, and its map would be valid on its own
pub record HasParts (block protected tag : List ℕ) : Type 0 where
  pub unprotected : DataPairs
  pub map : IsValid (MapOf unprotected)
  pub short_header : length protected < 2 ^ 64
  pub short_tag : length tag < 2 ^ 64
  pub parts : block ≡ spell (mac0_item protected unprotected tag)
