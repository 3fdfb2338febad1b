-- The severed members of an envelope that is made: it holds them, and its manifest states their digests.
use Rattle.std.specs.Prelude.{◌≡◌, ℕ, Bool, true, false, List, Option, Some, None, length, Ok}
use Rattle.det_cbor.specs.DataItem.{spell}
use Rattle.serde_json.specs.Data.{Data}
use Rattle.suit_commands.specs.Allowed.{IsSequence, levels_allowed}
use Rattle.suit_commands.specs.SequenceMaking.{sequence_item, step_items, placed}
use Rattle.suit_commands.specs.SequenceWriting.{IsWrittenSequence, SequenceFits}
use Rattle.suit_commands.specs.Sequences.{elements_place}
use Rattle.suit_params.specs.declared.digest_kind.DigestKind.{DigestKind}
use Rattle.suit_envelope.specs.Envelopes.{EnvelopeSays}
use Rattle.suit_envelope.specs.Members.{string_digest}
use Rattle.suit_envelope.specs.Said.{EnvelopeOf}
use Rattle.suit_manifest.specs.declared.manifest.Member.{Member}
use Rattle.suit_manifest.specs.declared.manifest.Member.TheVariants as members
use Rattle.suit_manifest.specs.declared.manifest.TextMember.{TextMember}
use Rattle.suit_manifest.specs.declared.manifest.TextMember.TheVariants as texts
use Rattle.suit_manifest.specs.MembersApart.{HasMember}
use Rattle.author.specs.declared.fields.Described.{Described}
use Rattle.author.specs.Descriptions.{described}
use Rattle.author.specs.Making.{made_manifest}

-- ---- members of an envelope that is made

-- The envelope holds a severed member that is given with its content: the member has the digest that the manifest
-- states, and says the given sequence at its places. No other member is in the envelope.
abbrev pub HoldsSevered : ℕ → Option (List ℕ) → ℕ → Bool → Member → Member → Type 0
HoldsSevered count held place true (members.Here s) stated =
    HasMember count held place stated (Some (placed (elements_place place (step_items s)) s))
HoldsSevered count held place true members.Empty stated = held ≡ None
HoldsSevered count held place true (members.Apart digest) stated = held ≡ None
HoldsSevered count held place false given stated = held ≡ None

abbrev pub HoldsText : Option (List ℕ) → Bool → DigestKind → TextMember → TextMember → Type 0
HoldsText held true kind (texts.Here content) stated =
    (held ≡ Some content) × (stated ≡ texts.Apart (string_digest kind content))
HoldsText held true kind texts.Empty stated = held ≡ None
HoldsText held true kind (texts.Apart digest) stated = held ≡ None
HoldsText held false kind given stated = held ≡ None

-- the envelope holds the severed members of what a description says
pub record HoldsSeveredOf (p : Described) (said : EnvelopeSays) : Type 0 where
  pub payload_fetch :
      HoldsSevered (length p.manifest.components) said.payload_fetch said.payload_fetch_place
      p.severed.payload_fetch p.manifest.payload_fetch (made_manifest p).payload_fetch
  pub install :
      HoldsSevered (length p.manifest.components) said.install said.install_place
      p.severed.install p.manifest.install (made_manifest p).install
  pub text :
      HoldsText said.text p.severed.text p.severed.kinds.text p.manifest.text
      (made_manifest p).text

-- the bytes are an envelope that holds the severed members of the description
pub record HoldsMembersOf (d : Data) (files : List (List ℕ × List ℕ)) (bytes : List ℕ)
    : Type 0 where
  pub described_as : Described
  pub reads : described files d ≡ Ok described_as
  pub said : EnvelopeSays
  pub envelope : EnvelopeOf bytes said
  pub members : HoldsSeveredOf described_as said

-- ---- inside

-- the grammar allows the member for that many components, if it fits the types of the code
abbrev pub IsAllowedMember : ℕ → Member → Type 0
IsAllowedMember count members.Empty = Unit {0}
IsAllowedMember count (members.Here s) =
    SequenceFits s → IsSequence false count levels_allowed s
IsAllowedMember count (members.Apart digest) = Unit {0}

-- if the member is severed, it was written
abbrev pub IsWrittenApart : Bool → Member → Type 0
IsWrittenApart true (members.Here s) =
    IsWrittenSequence s (spell (sequence_item s)) × SequenceFits s
IsWrittenApart true members.Empty = Unit {0}
IsWrittenApart true (members.Apart digest) = Unit {0}
IsWrittenApart false given = Unit {0}

abbrev pub AreWrittenApart : Described → Type 0
AreWrittenApart p =
    IsWrittenApart p.severed.payload_fetch p.manifest.payload_fetch
    × IsWrittenApart p.severed.install p.manifest.install
