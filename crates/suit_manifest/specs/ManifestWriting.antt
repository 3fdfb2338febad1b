-- A manifest that is written reads back as that manifest (draft-ietf-suit-manifest-25, section 8.4).
use Rattle.std.specs.Prelude.{◌≡◌, ◌≤◌, ℕ, Bool, true, false, List, length, IfSome}
use Rattle.std.specs.List.{AllByRecursion}
use Rattle.std.specs.Str.{IsUtf8}
use Rattle.det_cbor.specs.DataItem.{DataItem, spell, Spells, IsString}
use Rattle.suit_params.specs.Refusing.{SaysWhole}
use Rattle.suit_params.specs.DigestBytes.{IsDigestBytes}
use Rattle.suit_commands.specs.Tree.{SequenceTree}
use Rattle.suit_commands.specs.Allowed.{IsSequence, levels_allowed}
use Rattle.suit_commands.specs.SequenceMaking.{sequence_item}
use Rattle.suit_commands.specs.SequenceWriting.{IsU64, SequenceFits, IsWrittenSequence}
use Rattle.suit_manifest.specs.declared.manifest.Manifest.{Manifest}
use Rattle.suit_manifest.specs.declared.manifest.Member.{Member}
use Rattle.suit_manifest.specs.declared.manifest.Member.TheVariants as members
use Rattle.suit_manifest.specs.declared.manifest.TextMember.{TextMember}
use Rattle.suit_manifest.specs.declared.manifest.TextMember.TheVariants as texts
use Rattle.suit_manifest.specs.Components.{IsShort, AreApart}
use Rattle.suit_manifest.specs.Manifests.{IsManifest, count_said}
use Rattle.suit_manifest.specs.ManifestMaking.{common_item, placed_manifest, unplaced_manifest}

-- ---- the bounds that the types of the code set, and for sequences those that the calls that write them give

abbrev pub IsUtf8String : List ℕ → Type 0
IsUtf8String text = IsString text × IsUtf8 text

abbrev pub IdentifierFits : List (List ℕ) → Type 0
IdentifierFits id = IsU64 (length id) × AllByRecursion IsString id

abbrev pub ComponentsFit : List (List (List ℕ)) → Type 0
ComponentsFit ids = IsU64 (length ids) × AllByRecursion IdentifierFits ids

-- the bounds of a sequence in a byte string
abbrev pub HeldFits : SequenceTree → Type 0
HeldFits s =
    IsString (spell (sequence_item s)) × IsWrittenSequence s (spell (sequence_item s))
    × SequenceFits s

abbrev pub SeveredFits : Member → Type 0
SeveredFits members.Empty = Unit {0}
SeveredFits (members.Here s) = HeldFits s
SeveredFits (members.Apart digest) = IsDigestBytes digest

abbrev pub TextFits : TextMember → Type 0
TextFits texts.Empty = Unit {0}
TextFits (texts.Here content) = IsString content
TextFits (texts.Apart digest) = IsDigestBytes digest

pub record CommonFits (m : Manifest) : Type 0 where
  pub components : ComponentsFit m.components
  pub shared : IfSome m.shared HeldFits

pub record ManifestFits (m : Manifest) : Type 0 where
  pub sequence : IsU64 m.sequence
  pub common : CommonFits m
  pub common_string : IsString (spell (common_item m))
  pub reference : IfSome m.reference IsUtf8String
  pub validate : IfSome m.validate HeldFits
  pub load : IfSome m.load HeldFits
  pub invoke : IfSome m.invoke HeldFits
  pub payload_fetch : SeveredFits m.payload_fetch
  pub install : SeveredFits m.install
  pub text : TextFits m.text

-- ---- which manifests the grammar allows

-- a sequence of the grammar, in the shared sequence or not, for this number of components
abbrev pub IsHeldSequence : Bool → ℕ → SequenceTree → Type 0
IsHeldSequence shared count s = IsSequence shared count levels_allowed s

-- a sequence that the manifest holds is one of the grammar
abbrev pub IsSevered : ℕ → Member → Type 0
IsSevered count members.Empty = Unit {0}
IsSevered count (members.Here s) = IsHeldSequence false count s
IsSevered count (members.Apart digest) = Unit {0}

-- a text that the manifest holds is the spelling of one item
abbrev pub IsTextMember : TextMember → Type 0
IsTextMember texts.Empty = Unit {0}
IsTextMember (texts.Here content) = (x : DataItem) × Spells x content
IsTextMember (texts.Apart digest) = Unit {0}

-- the grammar allows the components, the sequences and the text
pub record IsGrammatical (m : Manifest) : Type 0 where
  pub some : 1 ≤ length m.components
  pub few : length m.components ≤ 8
  pub short : AllByRecursion IsShort m.components
  pub apart : AreApart m.components
  pub shared : IfSome m.shared (IsHeldSequence true (count_said m))
  pub validate : IfSome m.validate (IsHeldSequence false (count_said m))
  pub load : IfSome m.load (IsHeldSequence false (count_said m))
  pub invoke : IfSome m.invoke (IsHeldSequence false (count_said m))
  pub payload_fetch : IsSevered (count_said m) m.payload_fetch
  pub install : IsSevered (count_said m) m.install
  pub text : IsTextMember m.text

-- Wherever they are placed, the bytes say the manifest with the places that it has there, if the grammar
-- allows it. Apart from its places it is the same manifest.
pub record IsWrittenManifest (m : Manifest) (bytes : List ℕ) : Type 0 where
  pub says : (place : ℕ) → IsGrammatical m
      → SaysWhole IsManifest place bytes (placed_manifest place m)
  pub same : (place : ℕ) → unplaced_manifest (placed_manifest place m) ≡ unplaced_manifest m
