-- The digests of an envelope's byte strings, and what is answered for a severed member.
use Rattle.std.specs.Prelude.{◌≡◌, ◌≢◌, ℕ, List, Option, Some, None}
use Rattle.det_cbor.specs.DataItem.{ByteString, spell}
use Rattle.suit_params.specs.declared.digest.Digest.{Digest}
use Rattle.suit_params.specs.declared.digest_kind.DigestKind.{DigestKind}
use Rattle.suit_params.specs.Hashes.{hash, hash_like}
use Rattle.suit_envelope.specs.Envelopes.{EnvelopeSays}
use Rattle.suit_envelope.specs.declared.severed.MemberName.{MemberName}
use Rattle.suit_envelope.specs.declared.severed.MemberName.TheVariants as names
use Rattle.suit_envelope.specs.declared.severed.MemberBytes.{MemberBytes}
use Rattle.suit_envelope.specs.declared.severed.MemberBytes.TheVariants as answers

-- the digest of a whole byte string, its head and its content (draft-ietf-suit-manifest-25, section 8.3)
abbrev pub string_digest : DigestKind → List ℕ → Digest
string_digest kind content = hash kind (spell (ByteString content))

-- the same, by the hash function of this digest
abbrev pub string_like : Digest → List ℕ → Digest
string_like digest content = hash_like digest (spell (ByteString content))

-- the content that the envelope holds for the member, if any
abbrev pub member_of : EnvelopeSays → MemberName → Option (List ℕ)
member_of said names.PayloadFetch = said.payload_fetch
member_of said names.Install = said.install
member_of said names.Text = said.text

-- the answer is this content
abbrev pub IsGot : List ℕ → MemberBytes → Type 0
IsGot content (answers.Got bytes) = bytes.now ≡ content
IsGot content _ = ⊥

-- the answer for a member: its content if it has the stated digest
abbrev pub AnswersMember : Option (List ℕ) → Digest → MemberBytes → Type 0
AnswersMember None stated answers.Severed = Unit {0}
AnswersMember None stated _ = ⊥
AnswersMember (Some content) stated (answers.Got bytes) =
    (bytes.now ≡ content) × (string_like stated content ≡ stated)
AnswersMember (Some content) stated answers.Severed = ⊥
AnswersMember (Some content) stated (answers.Differs told found) =
    (told ≡ stated) × (found ≡ string_like stated content) × (found ≢ stated)
