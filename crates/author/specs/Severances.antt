-- What a description has outside its manifest (draft-ietf-suit-manifest-25, section 8.2).
use Rattle.std.specs.Prelude.{ℕ, Bool, true, false, List, Option, Some, None}
use Rattle.det_cbor.specs.DataItem.{spell}
use Rattle.suit_commands.specs.SequenceMaking.{sequence_item}
use Rattle.suit_manifest.specs.declared.manifest.Member.{Member}
use Rattle.suit_manifest.specs.declared.manifest.Member.TheVariants as members
use Rattle.suit_manifest.specs.declared.manifest.TextMember.{TextMember}
use Rattle.suit_manifest.specs.declared.manifest.TextMember.TheVariants as texts
use Rattle.author.specs.declared.fields.Described.{Described}
use Rattle.author.specs.declared.making.Parted.{Parted}
use Rattle.author.specs.Making.{made_manifest}

-- the content of a severed member; one that is given by its digest has none
abbrev pub severed_content : Bool → Member → Option (List ℕ)
severed_content true (members.Here s) = Some (spell (sequence_item s))
severed_content true members.Empty = None
severed_content true (members.Apart digest) = None
severed_content false m = None

abbrev pub severed_text : Bool → TextMember → Option (List ℕ)
severed_text true (texts.Here content) = Some content
severed_text true texts.Empty = None
severed_text true (texts.Apart digest) = None
severed_text false m = None

-- the manifest, and what is outside it in the envelope
abbrev pub parted : Described → Parted
parted p = record {
  manifest = made_manifest p;
  payload_fetch = severed_content p.severed.payload_fetch p.manifest.payload_fetch;
  install = severed_content p.severed.install p.manifest.install;
  text = severed_text p.severed.text p.manifest.text;
  payloads = p.payloads;
  kid = p.kid;
  mac = p.mac;
  algorithm = p.algorithm;
}
