-- The manifest (draft-ietf-suit-manifest-25, section 8.4).
use Rattle.std.specs.Prelude.{◌≡◌, ◌≢◌, ℕ, false, List, [], ◌∷◌, length, Option, None}
use Rattle.det_cbor.specs.DataItem.{DataItem, UnsignedInteger, TextString}
use Rattle.suit_params.specs.declared.digest.Digest.{Digest}
use Rattle.suit_params.specs.declared.refusal.Refusal.{Refusal}
use Rattle.suit_params.specs.declared.refusal.Why.TheVariants.{Shape, Version}
use Rattle.suit_params.specs.Refusing.{refused, Refuses, Says, SaysHeld, RefusesHeld, RefusesFirst}
use Rattle.suit_params.specs.Digests.{IsDigest, RefusesDigest}
use Rattle.suit_commands.specs.Tree.{SequenceTree}
use Rattle.suit_commands.specs.Allowed.{levels_allowed}
use Rattle.suit_commands.specs.Sequences.{SaysSequence}
use Rattle.suit_commands.specs.SequenceFaults.{RefusesSequence, IsUnsigned}
use Rattle.suit_params.specs.Params.{IsText}
use Rattle.suit_envelope.specs.Envelopes.{Entry}
use Rattle.suit_manifest.specs.declared.manifest.Manifest.{Manifest}
use Rattle.suit_manifest.specs.declared.manifest.Member.{Member}
use Rattle.suit_manifest.specs.declared.manifest.Member.TheVariants as members
use Rattle.suit_manifest.specs.declared.manifest.TextMember.{TextMember}
use Rattle.suit_manifest.specs.declared.manifest.TextMember.TheVariants as texts
use Rattle.suit_manifest.specs.Components.{IsArray}
use Rattle.suit_manifest.specs.Common.{CommonSays, IsCommon, RefusesCommon}
use Rattle.suit_manifest.specs.Maps.{entries_of, entry_under, HasKeys, SaysUnder, MaySayUnder, RefusesUnder, RefusesMap}

-- the keys that a manifest may have here
abbrev pub manifest_keys : List ℕ
manifest_keys = 1 ∷ 2 ∷ 3 ∷ 4 ∷ 7 ∷ 8 ∷ 9 ∷ 16 ∷ 20 ∷ 23 ∷ []

-- the keys of the version, the sequence number and the common part
abbrev pub required_keys : List ℕ
required_keys = 1 ∷ 2 ∷ 3 ∷ []

-- ---- values, for a number of components

-- the version must be 1
pub record IsVersion (place : ℕ) (x : DataItem) (version : ℕ) : Type 0 where
  pub is : x ≡ UnsignedInteger version
  pub first : version ≡ 1

abbrev pub SaysNumber : Says ℕ
SaysNumber place x n = x ≡ UnsignedInteger n

abbrev pub SaysText : Says (List ℕ)
SaysText place x text = x ≡ TextString text

-- a byte string that holds a command sequence
abbrev pub SaysMember : ℕ → Says SequenceTree
SaysMember count place x s = SaysHeld (SaysSequence false count levels_allowed) place x s

-- a digest, or a byte string that holds the sequence
pub data SaysSevered (count place : ℕ) (x : DataItem) : Member → Type 0 where
  SaysHere : (s : SequenceTree) → SaysMember count place x s
      → SaysSevered count place x (members.Here s)
  SaysApart : (digest : Digest) → IsDigest place x digest
      → SaysSevered count place x (members.Apart digest)

-- any item, which says itself
abbrev pub SaysItem : Says DataItem
SaysItem place x said = x ≡ said

-- a digest, or a byte string that holds one item
pub data SaysTextMember (place : ℕ) (x : DataItem) : TextMember → Type 0 where
  SaysTextHere : (said : DataItem) (held : SaysHeld SaysItem place x said)
      → SaysTextMember place x (texts.Here held.content)
  SaysTextApart : (digest : Digest) → IsDigest place x digest
      → SaysTextMember place x (texts.Apart digest)

-- the value under this number, which may be absent, says this severable member
abbrev pub SeveredUnder : ℕ → ℕ → List Entry → Member → Type 0
SeveredUnder n count es members.Empty = entry_under n es ≡ None
SeveredUnder n count es said = SaysUnder n (SaysSevered count) es said

-- the same for the text, whose key is 23
abbrev pub TextUnder : List Entry → TextMember → Type 0
TextUnder es texts.Empty = entry_under 23 es ≡ None
TextUnder es said = SaysUnder 23 SaysTextMember es said

-- ---- the grammar

abbrev pub common_said : Manifest → CommonSays
common_said m = record { components = m.components; shared = m.shared }

abbrev pub count_said : Manifest → ℕ
count_said m = length m.components

-- the item is a manifest that says this: a map with known keys, the required ones, and values that say its
-- parts
pub record IsManifest (place : ℕ) (x : DataItem) (said : Manifest) : Type 0 where
  pub map : HasKeys manifest_keys required_keys place x
  pub version : SaysUnder 1 IsVersion (entries_of place map.pairs) 1
  pub sequence : SaysUnder 2 SaysNumber (entries_of place map.pairs) said.sequence
  pub common : SaysUnder 3 (SaysHeld IsCommon) (entries_of place map.pairs) (common_said said)
  pub reference : MaySayUnder 4 SaysText (entries_of place map.pairs) said.reference
  pub validate :
      MaySayUnder 7 (SaysMember (count_said said)) (entries_of place map.pairs) said.validate
  pub load : MaySayUnder 8 (SaysMember (count_said said)) (entries_of place map.pairs) said.load
  pub invoke : MaySayUnder 9 (SaysMember (count_said said)) (entries_of place map.pairs) said.invoke
  pub payload_fetch :
      SeveredUnder 16 (count_said said) (entries_of place map.pairs) said.payload_fetch
  pub install : SeveredUnder 20 (count_said said) (entries_of place map.pairs) said.install
  pub text : TextUnder (entries_of place map.pairs) said.text

-- ---- refusals

pub data RefusesVersion (place : ℕ) : DataItem → Refusal → Type 0 where
  NoVersion : (x : DataItem) → (IsUnsigned x → ⊥) → RefusesVersion place x (refused place Shape)
  OtherVersion : (n : ℕ) → n ≢ 1
      → RefusesVersion place (UnsignedInteger n) (refused place (Version n))

pub data RefusesNumber (place : ℕ) : DataItem → Refusal → Type 0 where
  NoNumber : (x : DataItem) → (IsUnsigned x → ⊥) → RefusesNumber place x (refused place Shape)

pub data RefusesText (place : ℕ) : DataItem → Refusal → Type 0 where
  NoText : (x : DataItem) → (IsText x → ⊥) → RefusesText place x (refused place Shape)

abbrev pub RefusesMember : ℕ → Refuses
RefusesMember count place x r = RefusesHeld (RefusesSequence false count levels_allowed) place x r

-- an array is judged as a digest, and anything else as a byte string
pub data RefusesApart (held : Refuses) (place : ℕ) : DataItem → Refusal → Type 0 where
  BadDigest : (x : DataItem) (r : Refusal) → IsArray x → RefusesDigest place x r
      → RefusesApart held place x r
  BadHeld : (x : DataItem) (r : Refusal) → (IsArray x → ⊥) → held place x r
      → RefusesApart held place x r

-- an item is not refused for anything more
abbrev pub RefusesNothing : Refuses
RefusesNothing place x r = ⊥

abbrev pub RefusesItem : Refuses
RefusesItem place x r = RefusesHeld RefusesNothing place x r

-- the keys that follow the common part, all of which are optional
pub data LaterKey : Type 0 where
  ReferenceKey : LaterKey
  ValidateKey : LaterKey
  LoadKey : LaterKey
  InvokeKey : LaterKey
  PayloadFetchKey : LaterKey
  InstallKey : LaterKey
  TextKey : LaterKey

-- the value under such a key, if there is one, says something for this number of components
abbrev pub SaysLater : ℕ → List Entry → LaterKey → Type 0
SaysLater count es ReferenceKey = (said : Option (List ℕ)) × MaySayUnder 4 SaysText es said
SaysLater count es ValidateKey =
    (said : Option SequenceTree) × MaySayUnder 7 (SaysMember count) es said
SaysLater count es LoadKey = (said : Option SequenceTree) × MaySayUnder 8 (SaysMember count) es said
SaysLater count es InvokeKey =
    (said : Option SequenceTree) × MaySayUnder 9 (SaysMember count) es said
SaysLater count es PayloadFetchKey = (said : Member) × SeveredUnder 16 count es said
SaysLater count es InstallKey = (said : Member) × SeveredUnder 20 count es said
SaysLater count es TextKey = (said : TextMember) × TextUnder es said

abbrev pub RefusesLater : ℕ → List Entry → LaterKey → Refusal → Type 0
RefusesLater count es ReferenceKey r = RefusesUnder 4 RefusesText es r
RefusesLater count es ValidateKey r = RefusesUnder 7 (RefusesMember count) es r
RefusesLater count es LoadKey r = RefusesUnder 8 (RefusesMember count) es r
RefusesLater count es InvokeKey r = RefusesUnder 9 (RefusesMember count) es r
RefusesLater count es PayloadFetchKey r = RefusesUnder 16 (RefusesApart (RefusesMember count)) es r
RefusesLater count es InstallKey r = RefusesUnder 20 (RefusesApart (RefusesMember count)) es r
RefusesLater count es TextKey r = RefusesUnder 23 (RefusesApart RefusesItem) es r

-- those keys in the order in which their values are judged
abbrev pub later_keys : List LaterKey
later_keys =
    ReferenceKey ∷ ValidateKey ∷ LoadKey ∷ InvokeKey ∷ PayloadFetchKey ∷ InstallKey ∷ TextKey ∷ []

-- the refusals of the values: version, sequence number, common part, and then the optional ones
pub data RefusesManifestValues (es : List Entry) (r : Refusal) : Type 0 where
  BadVersion : RefusesUnder 1 RefusesVersion es r → RefusesManifestValues es r
  BadNumber : SaysUnder 1 IsVersion es 1 → RefusesUnder 2 RefusesNumber es r
      → RefusesManifestValues es r
  BadCommon : (n : ℕ) → SaysUnder 1 IsVersion es 1 → SaysUnder 2 SaysNumber es n
      → RefusesUnder 3 (RefusesHeld RefusesCommon) es r → RefusesManifestValues es r
  BadLater : (n : ℕ) (common : CommonSays) → SaysUnder 1 IsVersion es 1
      → SaysUnder 2 SaysNumber es n → SaysUnder 3 (SaysHeld IsCommon) es common
      → RefusesFirst (RefusesLater (length common.components) es)
      (SaysLater (length common.components) es) later_keys r
      → RefusesManifestValues es r

abbrev pub RefusesManifest : Refuses
RefusesManifest place x r = RefusesMap manifest_keys required_keys RefusesManifestValues place x r
