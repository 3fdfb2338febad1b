-- Members that may stand apart are read as they are written.
use Rattle.std.proofs.Common.{◌≡◌, ℕ, ◌≤◌, ◌^◌, true, List, Ok, refl}
use Rattle.std.specs.List.{AllByRecursion}
use Rattle.det_cbor.specs.DataItem.{IsByte}
use Rattle.suit_params.specs.declared.digest.Digest.{Digest}
use Rattle.suit_params.specs.DigestBytes.{IsDigestBytes}
use Rattle.suit_commands.specs.Allowed.{IsSequence, levels_allowed}
use Rattle.suit_commands.specs.SequenceMaking.{unplaced}
use Rattle.suit_commands.specs.Tree.{SequenceTree}
use Rattle.suit_manifest.specs.declared.manifest.Member.TheVariants as members
use Rattle.suit_manifest.specs.declared.manifest.TextMember.TheVariants as texts
use Rattle.author.specs.Members.{left_out, described_member, is_one_item, text_member_of}
use Rattle.author.specs.Scope.{Scope}
use Rattle.describe.specs.ValueData.{hex_data}
use Rattle.describe.specs.CommandData.{sequence_data}
use Rattle.describe.specs.MemberData.{digest_data}
use Rattle.describe.proofs.ValuesRead.{digest_read, hex_read}
use Rattle.describe.proofs.CommandsRead.{sequence_read}

left_read : (digest : Digest) → IsDigestBytes digest → left_out (digest_data digest) ≡ Ok digest
left_read digest h = rw (digest_read digest h) refl

pub here_read : (scope : Scope) (s : SequenceTree) → scope.count ≤ 2 ^ 64 → IsSequence scope.shared scope.count levels_allowed s → described_member scope (sequence_data s) ≡ Ok (members.Here (unplaced s))
here_read scope s small h = rw (sequence_read scope small levels_allowed s h) refl

pub apart_read : (scope : Scope) (digest : Digest) → IsDigestBytes digest → described_member scope (digest_data digest) ≡ Ok (members.Apart digest)
apart_read scope digest h = rw (left_read digest h) refl

pub text_read : (content : List ℕ) → AllByRecursion IsByte content → is_one_item content ≡ true → text_member_of (hex_data content) ≡ Ok (texts.Here content)
text_read content h one = rw (hex_read content h, one) refl

pub apart_text_read : (digest : Digest) → IsDigestBytes digest → text_member_of (digest_data digest) ≡ Ok (texts.Apart digest)
apart_text_read digest h = rw (left_read digest h) refl
