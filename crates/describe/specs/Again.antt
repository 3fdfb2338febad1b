-- A described manifest is made again: the description stands for the manifest that it was written from.
use Rattle.std.specs.Prelude.{◌≡◌, ℕ, false, List, [], Option, Some, None}
use Rattle.det_cbor.specs.DataItem.{spell}
use Rattle.serde_json.specs.Data.{Data}
use Rattle.serde_json.specs.Written.{has_float}
use Rattle.suit_params.specs.Refusing.{SaysWhole}
use Rattle.suit_commands.specs.Tree.{SequenceTree}
use Rattle.suit_envelope.specs.Envelopes.{EnvelopeSays}
use Rattle.suit_envelope.specs.Payloads.{HasPayloads}
use Rattle.suit_envelope.specs.Said.{EnvelopeOf}
use Rattle.suit_manifest.specs.declared.manifest.Manifest.{Manifest}
use Rattle.suit_manifest.specs.declared.manifest.Member.{Member}
use Rattle.suit_manifest.specs.declared.manifest.Member.TheVariants.{Empty, Here, Apart}
use Rattle.suit_manifest.specs.declared.manifest.Members.{Members}
use Rattle.suit_manifest.specs.ManifestMaking.{manifest_item, unplaced_manifest}
use Rattle.suit_manifest.specs.Manifests.{IsManifest, count_said}
use Rattle.suit_manifest.specs.MembersApart.{IsTaken, HasMembers}
use Rattle.author.specs.FileNames.{file_names}
use Rattle.author.specs.Faults.{IsDescription}
use Rattle.author.specs.Making.{IsManifestOf}
use Rattle.describe.specs.Describing.{described_by}

-- if this severed member is given, the envelope holds it with the digest that the manifest states
abbrev pub IsThere : ℕ → Option (List ℕ) → ℕ → Member → Option SequenceTree → Type 0
IsThere count held place (Apart stated) (Some s) = IsTaken count held place stated s
IsThere count held place (Apart stated) None = Unit {0}
IsThere count held place Empty apart = Unit {0}
IsThere count held place (Here own) apart = Unit {0}

pub record AreThere (said : EnvelopeSays) (m : Manifest) (apart : Members) : Type 0 where
  pub payload_fetch :
      IsThere (count_said m) said.payload_fetch said.payload_fetch_place m.payload_fetch
      apart.payload_fetch
  pub install : IsThere (count_said m) said.install said.install_place m.install apart.install

-- the value is a description; with any files, it stands for this manifest, but for places, and for no other; and these
-- bytes spell that manifest
pub record StandsFor (d : Data) (files : List (List ℕ × List ℕ)) (m : Manifest) (bytes : List ℕ)
    : Type 0 where
  pub accepted : IsDescription d
  pub manifest : IsManifestOf d files (unplaced_manifest m)
  pub only : (other : Manifest) → IsManifestOf d files other → other ≡ unplaced_manifest m
  pub spelled : spell (manifest_item (unplaced_manifest m)) ≡ bytes

-- the law, for an envelope, its payloads, its manifest, and those of its members that are there
abbrev pub MadeAgain : Type 0
MadeAgain =
    (bytes : List ℕ) (said : EnvelopeSays) (payloads files : List (List ℕ × List ℕ)) (place : ℕ)
    (m : Manifest) (apart : Members)
    → EnvelopeOf bytes said → HasPayloads bytes payloads
    → SaysWhole IsManifest place said.manifest m → AreThere said m apart
    → StandsFor (described_by said payloads m apart) files m said.manifest

-- no number in a description has a fraction, so its text is exact
abbrev pub HasNoFloat : Type 0
HasNoFloat =
    (said : EnvelopeSays) (payloads : List (List ℕ × List ℕ)) (m : Manifest) (apart : Members)
    → has_float (described_by said payloads m apart) ≡ false

-- a description names no file
abbrev pub NamesNoFile : Type 0
NamesNoFile =
    (said : EnvelopeSays) (payloads : List (List ℕ × List ℕ)) (m : Manifest) (apart : Members)
    → file_names (described_by said payloads m apart) ≡ []

pub record DescribeLaws : Type 0 where
  pub made_again : MadeAgain
  -- if all severed members are read, each of them is there
  pub taken : (said : EnvelopeSays) (m : Manifest) (apart : Members) → HasMembers said m apart
      → AreThere said m apart
  pub no_float : HasNoFloat
  pub no_file : NamesNoFile
