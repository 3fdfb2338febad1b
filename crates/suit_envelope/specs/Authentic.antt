-- Whether an envelope is authentic under a key (draft-ietf-suit-manifest-25, section 8.3; RFC 9052, section 6).
use Rattle.std.specs.Prelude.{◌≡◌, ◌≢◌, ℕ, List, Result}
use Rattle.std.specs.List.{AllByRecursion}
use Rattle.det_cbor.specs.DataItem.{spell}
use Rattle.det_cbor.specs.HeadReading.{◌>>=◌}
use Rattle.det_cbor.specs.Position.{Position}
use Rattle.hmac_mac0.specs.Tags.{tag_bytes}
use Rattle.suit_params.specs.declared.digest.Digest.{Digest}
use Rattle.suit_params.specs.declared.refusal.Refusal.{Refusal}
use Rattle.suit_params.specs.Digests.{digest_item}
use Rattle.suit_params.specs.Reading.{head_from, content_from}
use Rattle.suit_envelope.specs.Macs.{IsOther, FailsToVerify, SomeVerifies, FirstDiffers}
use Rattle.suit_envelope.specs.Members.{string_like}
use Rattle.suit_envelope.specs.WrapperParts.{WrapperSays, start_of}
use Rattle.suit_envelope.specs.declared.authenticity.Authenticity.{Authenticity}
use Rattle.suit_envelope.specs.declared.authenticity.Authenticity.TheVariants as answers

-- the payload of each block: the content of the wrapper's first byte string
abbrev pub payload_of : Digest → List ℕ
payload_of digest = spell (digest_item digest)

-- the wrapper's digest is that of the manifest's whole byte string, by its own hash function, and some block
-- verifies
pub record IsAuthentic (wrapper manifest key : List ℕ) : Type 0 where
  pub digest : Digest
  pub blocks : List (List ℕ)
  pub says : WrapperSays wrapper digest blocks
  pub stated : digest ≡ string_like digest manifest
  pub verifies : SomeVerifies key (payload_of digest) blocks

-- the answer for a wrapper with this digest and these blocks; the digest is judged first
abbrev pub AnswersAuthentic : Digest → List (List ℕ) → List ℕ → List ℕ → Authenticity → Type 0
AnswersAuthentic digest blocks manifest key answers.Yes =
    (digest ≡ string_like digest manifest) × SomeVerifies key (payload_of digest) blocks
AnswersAuthentic digest blocks manifest key (answers.DigestDiffers stated found) =
    (stated ≡ digest) × (found ≡ string_like digest manifest)
    × (digest ≢ string_like digest manifest)
AnswersAuthentic digest blocks manifest key answers.NoMac =
    (digest ≡ string_like digest manifest) × AllByRecursion IsOther blocks
AnswersAuthentic digest blocks manifest key (answers.MacDiffers expected found) =
    (digest ≡ string_like digest manifest)
    × AllByRecursion (FailsToVerify key (payload_of digest)) blocks
    × FirstDiffers key (payload_of digest) (tag_bytes expected) found.now blocks

-- if an answer says that two digests or tags differ, they do
abbrev pub TellsDifference : Authenticity → Type 0
TellsDifference (answers.DigestDiffers stated found) = stated ≢ found
TellsDifference (answers.MacDiffers expected found) = found.now ≢ tag_bytes expected
TellsDifference _ = Unit {0}

-- two answers say the same
abbrev pub TellSame : Authenticity → Authenticity → Type 0
TellSame answers.Yes answers.Yes = Unit {0}
TellSame (answers.DigestDiffers stated found) (answers.DigestDiffers other_stated other_found) =
    (stated ≡ other_stated) × (found ≡ other_found)
TellSame answers.NoMac answers.NoMac = Unit {0}
TellSame (answers.MacDiffers expected found) (answers.MacDiffers other_expected other_found) =
    (tag_bytes expected ≡ tag_bytes other_expected) × (found.now ≡ other_found.now)
TellSame _ _ = ⊥

-- the content of the wrapper's first byte string, and what follows it
abbrev pub first_from : List ℕ → Result (Position × Position) Refusal
first_from wrapper = head_from (start_of wrapper) >>= λ h. content_from h.1
