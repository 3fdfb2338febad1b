-- Members that may be severed, in a description: with their content if it is known, or else by their digests.
use Rattle.std.specs.Prelude.{ℕ, Bool, false, ◌&&◌, if◌then◌else◌, List, codes, Option, Some, None, is_some}
use Rattle.det_cbor.specs.DataItem.{ByteString, spell}
use Rattle.serde_json.specs.Data.{Data}
use Rattle.suit_params.specs.declared.digest.Digest.{Digest}
use Rattle.suit_params.specs.declared.digest_kind.DigestKind.{DigestKind}
use Rattle.suit_params.specs.declared.digest_kind.DigestKind.TheVariants.{Sha256}
use Rattle.suit_params.specs.DigestBytes.{digest_bytes, digest_kind}
use Rattle.suit_params.specs.Hashes.{has_digest}
use Rattle.suit_commands.specs.Tree.{SequenceTree}
use Rattle.suit_manifest.specs.declared.manifest.Member.{Member}
use Rattle.suit_manifest.specs.declared.manifest.Member.TheVariants as members
use Rattle.suit_manifest.specs.declared.manifest.TextMember.{TextMember}
use Rattle.suit_manifest.specs.declared.manifest.TextMember.TheVariants as texts
use Rattle.author.specs.Members.{is_one_item}
use Rattle.describe.specs.ValueData.{hex_data, one_member}
use Rattle.describe.specs.CommandData.{sequence_data}

-- a member whose content is not known is written by its digest
abbrev pub digest_data : Digest → Data
digest_data digest = one_member (codes "digest") (hex_data (digest_bytes digest))

-- a severed member has the second content, if that is there
abbrev pub member_data : Member → Option SequenceTree → Option Data
member_data members.Empty apart = None
member_data (members.Here s) apart = Some (sequence_data s)
member_data (members.Apart digest) (Some s) = Some (sequence_data s)
member_data (members.Apart digest) None = Some (digest_data digest)

-- the member is severed, and there
abbrev pub is_severed : Member → Option SequenceTree → Bool
is_severed (members.Apart digest) apart = is_some apart
is_severed _ apart = false

-- the hash function of the member's digest, if it is severed and there
abbrev pub member_kind : Member → Option SequenceTree → DigestKind
member_kind (members.Apart digest) (Some s) = digest_kind digest
member_kind _ _ = Sha256

-- ---- the text

-- the text that the envelope holds, if it has the digest and is one item
abbrev pub held_text : Digest → Option (List ℕ) → Option (List ℕ)
held_text digest None = None
held_text digest (Some content) =
    if has_digest digest (spell (ByteString content)) && is_one_item content then Some content
    else None

-- the hash function of the text's digest, if it is severed and its content is known
abbrev pub text_kind : TextMember → Option (List ℕ) → DigestKind
text_kind (texts.Apart digest) (Some content) = digest_kind digest
text_kind _ _ = Sha256

-- the content of a severed text, if it is known
abbrev pub apart_text : TextMember → Option (List ℕ) → Option (List ℕ)
apart_text (texts.Apart digest) held = held_text digest held
apart_text _ held = None

abbrev pub text_data : TextMember → Option (List ℕ) → Option Data
text_data texts.Empty apart = None
text_data (texts.Here content) apart = Some (hex_data content)
text_data (texts.Apart digest) (Some content) = Some (hex_data content)
text_data (texts.Apart digest) None = Some (digest_data digest)
