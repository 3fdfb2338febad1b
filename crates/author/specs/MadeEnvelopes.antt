-- The envelope of a description: its wrapper states the manifest's digest, and has one block that is made with the key
-- (draft-ietf-suit-manifest-25, sections 8.2 and 8.3).
use Rattle.std.specs.Prelude.{◌≡◌, ◌⊎◌, ◌<◌, ◌≤◌, ℕ, true, List, [], ◌∷◌, length, Option, Result, Ok, Err}
use Rattle.det_cbor.specs.DataItem.{spell}
use Rattle.serde_json.specs.Data.{Data}
use Rattle.hmac_mac0.specs.Mac0.{made_item, IsMac0, Verifies}
use Rattle.hmac_mac0.specs.declared.mac_kind.MacKind.{MacKind}
use Rattle.suit_params.specs.declared.digest.Digest.{Digest}
use Rattle.suit_params.specs.Refusing.{SaysWhole}
use Rattle.suit_params.specs.declared.digest_kind.DigestKind.{DigestKind}
use Rattle.suit_envelope.specs.Authentic.{payload_of, IsAuthentic}
use Rattle.suit_envelope.specs.Envelopes.{EnvelopeSays}
use Rattle.suit_envelope.specs.Making.{envelope_made, SaysParts}
use Rattle.suit_envelope.specs.Members.{string_digest}
use Rattle.suit_envelope.specs.Said.{EnvelopeOf}
use Rattle.suit_envelope.specs.Trimmed.{trimmed}
use Rattle.suit_envelope.specs.WrapperParts.{wrapper_item, WrapperSays}
use Rattle.suit_envelope.specs.declared.parts.EnvelopeParts.{EnvelopeParts}
use Rattle.suit_manifest.specs.declared.manifest.Manifest.{Manifest}
use Rattle.suit_manifest.specs.ManifestMaking.{manifest_item, placed_manifest}
use Rattle.suit_manifest.specs.Manifests.{IsManifest}
use Rattle.author.specs.declared.fields.Described.{Described}
use Rattle.author.specs.declared.making.Parted.{Parted}
use Rattle.author.specs.declared.make_fault.MakeFault.{MakeFault}
use Rattle.author.specs.declared.make_fault.MakeFault.TheVariants.{TooLong, NoMemory}
use Rattle.author.specs.Descriptions.{described}
use Rattle.author.specs.Making.{IsManifestOf}
use Rattle.author.specs.Severances.{parted}

-- ---- the parts

abbrev pub made_block : MacKind → List ℕ → Option (List ℕ) → Digest → List ℕ
made_block mac key kid digest = spell (made_item mac key kid (payload_of digest))

abbrev pub made_wrapper : MacKind → List ℕ → Option (List ℕ) → Digest → List ℕ
made_wrapper mac key kid digest =
    spell (wrapper_item digest (made_block mac key kid digest ∷ []))

abbrev pub parts_round : List ℕ → Parted → List ℕ → EnvelopeParts
parts_round key p manifest = record {
  wrapper = made_wrapper p.mac key p.kid (string_digest p.algorithm manifest);
  manifest = manifest;
  payload_fetch = p.payload_fetch;
  install = p.install;
  text = p.text;
  payloads = p.payloads;
}

abbrev pub made_parts : List ℕ → Parted → EnvelopeParts
made_parts key p = parts_round key p (spell (manifest_item p.manifest))

-- ---- the bytes, and the bytes of the trimmed envelope

abbrev pub made_bytes : EnvelopeParts → List ℕ
made_bytes parts = spell (envelope_made parts)

abbrev pub trimmed_bytes : EnvelopeParts → List ℕ
trimmed_bytes parts = trimmed parts.wrapper parts.manifest

-- the trimmed envelope has at most 65,536 bytes, and the whole one at most 1,048,576
abbrev pub IsShort : EnvelopeParts → Type 0
IsShort parts = (length (trimmed_bytes parts) ≤ 65536) × (length (made_bytes parts) ≤ 1048576)

-- the first of the two limits that is exceeded
pub data ExceedsLimit (parts : EnvelopeParts) : ℕ → Type 0 where
  Trimmed : 65536 < length (trimmed_bytes parts) → ExceedsLimit parts 65536
  Whole : length (trimmed_bytes parts) ≤ 65536 → 1048576 < length (made_bytes parts)
      → ExceedsLimit parts 1048576

-- the fault tells the limit that is exceeded, or that memory ran out
abbrev pub IsLengthFault : EnvelopeParts → MakeFault → Type 0
IsLengthFault parts (TooLong limit) = ExceedsLimit parts limit
IsLengthFault parts NoMemory = Unit {0}

abbrev pub AnswersShort : EnvelopeParts → Result (List ℕ) MakeFault → Type 0
AnswersShort parts (Ok bytes) = (bytes ≡ made_bytes parts) × IsShort parts
AnswersShort parts (Err fault) = IsLengthFault parts fault

-- ---- the envelope of the description that a value is, with its files

pub record IsMadeOf (d : Data) (files : List (List ℕ × List ℕ)) (key bytes : List ℕ) : Type 0 where
  pub said : Described
  pub reads : described files d ≡ Ok said
  pub short : IsShort (made_parts key (parted said))
  pub is : bytes ≡ made_bytes (made_parts key (parted said))

pub record IsTooLong (d : Data) (files : List (List ℕ × List ℕ)) (key : List ℕ) (limit : ℕ)
    : Type 0 where
  pub said : Described
  pub reads : described files d ≡ Ok said
  pub passes : ExceedsLimit (made_parts key (parted said)) limit

abbrev pub IsMakeFaultOf : Data → List (List ℕ × List ℕ) → List ℕ → MakeFault → Type 0
IsMakeFaultOf d files key (TooLong limit) = IsTooLong d files key limit
IsMakeFaultOf d files key NoMemory = Unit {0}

-- these bytes are made, unless memory ran out
abbrev pub IsMadeAs : List ℕ → Result (List ℕ) MakeFault → Type 0
IsMadeAs bytes (Ok made) = made ≡ bytes
IsMadeAs bytes (Err fault) = fault ≡ NoMemory

-- this limit is told, unless memory ran out
abbrev pub IsTooLongBy : ℕ → Result (List ℕ) MakeFault → Type 0
IsTooLongBy limit (Ok made) = ⊥
IsTooLongBy limit (Err fault) = (fault ≡ TooLong limit) ⊎ (fault ≡ NoMemory)

-- ---- what the bytes mean

-- the wrapper states the manifest's digest by some hash function, and has one block, which verifies under the key
pub record HasOneBlock (key wrapper manifest : List ℕ) : Type 0 where
  pub algorithm : DigestKind
  pub block : List ℕ
  pub says : WrapperSays wrapper (string_digest algorithm manifest) (block ∷ [])
  pub verifies : Verifies block key (payload_of (string_digest algorithm manifest))

-- the block is a COSE_Mac0 block that names this algorithm
pub record IsBlockBy (mac : MacKind) (block : List ℕ) : Type 0 where
  pub protected : List ℕ
  pub tag : List ℕ
  pub is_block : IsMac0 block mac protected tag

-- the wrapper states the manifest's digest by this hash function, and has one block, which names this algorithm
pub record HasBlockBy (mac : MacKind) (algorithm : DigestKind) (wrapper manifest : List ℕ)
    : Type 0 where
  pub block : List ℕ
  pub says : WrapperSays wrapper (string_digest algorithm manifest) (block ∷ [])
  pub by_mac : IsBlockBy mac block

-- the bytes are a tagged envelope that is authentic under the key, by its one block
pub record IsAuthenticUnder (key bytes : List ℕ) : Type 0 where
  pub said : EnvelopeSays
  pub envelope : EnvelopeOf bytes said
  pub tagged : said.tagged ≡ true
  pub one_block : HasOneBlock key said.wrapper said.manifest
  pub authentic : IsAuthentic said.wrapper said.manifest key

-- the bytes are an envelope that says the parts of the description
pub record HoldsPartsOf (d : Data) (files : List (List ℕ × List ℕ)) (key bytes : List ℕ)
    : Type 0 where
  pub described_as : Described
  pub reads : described files d ≡ Ok described_as
  pub said : EnvelopeSays
  pub envelope : EnvelopeOf bytes said
  pub parts : SaysParts (made_parts key (parted described_as)) said

-- the bytes are an envelope whose manifest is that of the description, with the places that it has there
pub record HoldsManifestOf (d : Data) (files : List (List ℕ × List ℕ)) (bytes : List ℕ)
    : Type 0 where
  pub said : EnvelopeSays
  pub envelope : EnvelopeOf bytes said
  pub manifest : Manifest
  pub is : IsManifestOf d files manifest
  pub says_so :
      SaysWhole IsManifest said.manifest_place said.manifest
      (placed_manifest said.manifest_place manifest)
