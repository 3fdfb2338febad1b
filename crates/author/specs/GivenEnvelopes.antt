-- The envelope of a description, by its JSON value and by the bytes alone (draft-ietf-suit-manifest-25, sections 8.2,
-- 8.4 and 8.5).
use Rattle.std.specs.Prelude.{◌≡◌, ℕ, List, codes, Option, Some, None, length}
use Rattle.serde_json.specs.Data.{Data}
use Rattle.serde_json.specs.Find.{get}
use Rattle.hmac_mac0.specs.declared.mac_kind.MacKind.{MacKind}
use Rattle.suit_params.specs.declared.digest_kind.DigestKind.{DigestKind}
use Rattle.suit_params.specs.Refusing.{SaysWhole}
use Rattle.suit_commands.specs.Tree.{SequenceTree}
use Rattle.suit_params.specs.DigestBytes.{digest_kind}
use Rattle.suit_envelope.specs.Envelopes.{EnvelopeSays}
use Rattle.suit_envelope.specs.Members.{string_digest}
use Rattle.suit_envelope.specs.Payloads.{HasPayloads}
use Rattle.suit_envelope.specs.Said.{EnvelopeOf}
use Rattle.suit_manifest.specs.declared.manifest.Manifest.{Manifest}
use Rattle.suit_manifest.specs.declared.manifest.Member.{Member}
use Rattle.suit_manifest.specs.declared.manifest.Member.TheVariants as members
use Rattle.suit_manifest.specs.declared.manifest.TextMember.{TextMember}
use Rattle.suit_manifest.specs.declared.manifest.TextMember.TheVariants as texts
use Rattle.suit_manifest.specs.Manifests.{IsManifest}
use Rattle.suit_manifest.specs.MembersApart.{HasMember}
use Rattle.author.specs.GivenParts.{ArePayloadsOf, IsAlgorithmOf, IsMemberOf, IsTextOf, IsMacOf, Severs, SeversBy}
use Rattle.author.specs.MadeEnvelopes.{HasBlockBy}

-- the manifest has a digest in place of the member, by this hash function
abbrev pub IsApartBy : DigestKind → Member → Type 0
IsApartBy kind (members.Apart digest) = digest_kind digest ≡ kind
IsApartBy kind _ = ⊥

-- A member that `sever` names has its digest in the manifest, by the named hash function; its byte string is in the
-- envelope, has that digest, and says a sequence of the listed commands. Any other member is in the manifest as it is
-- given, and not in the envelope.
pub record HoldsMember (d : Data) (name : List ℕ) (count : ℕ) (held : Option (List ℕ)) (place : ℕ)
    (stated : Member) : Type 0 where
  pub severed : (kind : DigestKind) → SeversBy d name kind
      → (s : SequenceTree) × HasMember count held place stated (Some s)
      × IsMemberOf (get name d) (members.Here s) × IsApartBy kind stated
  pub own : (Severs d name → ⊥) → (held ≡ None) × IsMemberOf (get name d) stated

-- the same for the text
pub record HoldsTextMember (d : Data) (held : Option (List ℕ)) (stated : TextMember)
    : Type 0 where
  pub severed : (kind : DigestKind) → SeversBy d (codes "text") kind
      → (content : List ℕ) × (held ≡ Some content)
      × (stated ≡ texts.Apart (string_digest kind content))
      × IsTextOf (get (codes "text") d) (texts.Here content)
  pub own : (Severs d (codes "text") → ⊥)
      → (held ≡ None) × IsTextOf (get (codes "text") d) stated

-- the wrapper states the manifest's digest by the hash function that is named, and has one block, by the algorithm that
-- is named
pub record HasBlockAsGiven (d : Data) (wrapper manifest : List ℕ) : Type 0 where
  pub mac : MacKind
  pub named : IsMacOf (get (codes "mac") d) mac
  pub algorithm : DigestKind
  pub states : IsAlgorithmOf (get (codes "algorithm") d) algorithm
  pub block : HasBlockBy mac algorithm wrapper manifest

-- the bytes are an envelope that holds the block, the manifest, the members and the payloads as they are given
pub record HoldsAsGiven (d : Data) (files : List (List ℕ × List ℕ)) (bytes : List ℕ)
    : Type 0 where
  pub said : EnvelopeSays
  pub envelope : EnvelopeOf bytes said
  pub block : HasBlockAsGiven d said.wrapper said.manifest
  pub manifest : Manifest
  pub says_so : SaysWhole IsManifest said.manifest_place said.manifest manifest
  pub payload_fetch :
      HoldsMember d (codes "payload-fetch") (length manifest.components) said.payload_fetch
      said.payload_fetch_place manifest.payload_fetch
  pub install :
      HoldsMember d (codes "install") (length manifest.components) said.install said.install_place
      manifest.install
  pub text : HoldsTextMember d said.text manifest.text
  pub list : List (List ℕ × List ℕ)
  pub payloads : HasPayloads bytes list
  pub given : ArePayloadsOf d files list
