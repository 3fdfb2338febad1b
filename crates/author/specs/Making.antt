-- The manifest and the severed members of a description.
use Rattle.std.specs.Prelude.{◌≡◌, ℕ, Bool, true, false, List, Ok}
use Rattle.det_cbor.specs.DataItem.{spell}
use Rattle.serde_json.specs.Data.{Data}
use Rattle.suit_commands.specs.SequenceMaking.{sequence_item}
use Rattle.suit_params.specs.declared.digest_kind.DigestKind.{DigestKind}
use Rattle.suit_envelope.specs.Members.{string_digest}
use Rattle.suit_manifest.specs.declared.manifest.Manifest.{Manifest}
use Rattle.suit_manifest.specs.declared.manifest.Member.{Member}
use Rattle.suit_manifest.specs.declared.manifest.Member.TheVariants as members
use Rattle.suit_manifest.specs.declared.manifest.TextMember.{TextMember}
use Rattle.suit_manifest.specs.declared.manifest.TextMember.TheVariants as texts
use Rattle.author.specs.declared.fields.Described.{Described}
use Rattle.author.specs.Descriptions.{described}

-- in place of a severed member, the manifest has the digest of its byte string in the envelope, by its hash function
abbrev pub apart_member : Bool → DigestKind → Member → Member
apart_member true kind (members.Here s) =
    members.Apart (string_digest kind (spell (sequence_item s)))
apart_member true kind members.Empty = members.Empty
apart_member true kind (members.Apart digest) = members.Apart digest
apart_member false kind m = m

abbrev pub apart_text : Bool → DigestKind → TextMember → TextMember
apart_text true kind (texts.Here content) = texts.Apart (string_digest kind content)
apart_text true kind texts.Empty = texts.Empty
apart_text true kind (texts.Apart digest) = texts.Apart digest
apart_text false kind m = m

abbrev pub made_manifest : Described → Manifest
made_manifest p =
    record p.manifest {
      payload_fetch =
          apart_member p.severed.payload_fetch p.severed.kinds.payload_fetch p.manifest.payload_fetch;
      install = apart_member p.severed.install p.severed.kinds.install p.manifest.install;
      text = apart_text p.severed.text p.severed.kinds.text p.manifest.text;
    }

-- this is the manifest of the description that a value is, with its files
pub record IsManifestOf (d : Data) (files : List (List ℕ × List ℕ)) (m : Manifest) : Type 0 where
  pub said : Described
  pub reads : described files d ≡ Ok said
  pub is : m ≡ made_manifest said
