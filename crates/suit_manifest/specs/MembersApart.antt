-- The severed members of a manifest, in its envelope (draft-ietf-suit-manifest-25, sections 8.4 and 8.5).
use Rattle.std.specs.Prelude.{◌≡◌, ◌≢◌, ◌<◌, ◌⊎◌, ◌^◌, ℕ, false, length, List, Option, Some, None, Result, MatchResult, IsErrAnd}
use Rattle.suit_params.specs.declared.refusal.Fault.{Fault}
use Rattle.suit_params.specs.declared.refusal.Fault.TheVariants as faults
use Rattle.suit_params.specs.declared.refusal.Refusal.{Refusal}
use Rattle.suit_params.specs.declared.digest.Digest.{Digest}
use Rattle.suit_params.specs.Refusing.{SaysWhole, RefusesWhole}
use Rattle.suit_commands.specs.Tree.{SequenceTree}
use Rattle.suit_commands.specs.Allowed.{levels_allowed}
use Rattle.suit_commands.specs.Sequences.{SaysSequence}
use Rattle.suit_commands.specs.SequenceFaults.{RefusesSequence}
use Rattle.suit_envelope.specs.Envelopes.{EnvelopeSays}
use Rattle.suit_envelope.specs.Places.{MembersEndBelow}
use Rattle.suit_envelope.specs.Members.{member_of, string_like}
use Rattle.suit_envelope.specs.Said.{said_by}
use Rattle.suit_envelope.specs.declared.envelope.Envelope.{Envelope}
use Rattle.suit_envelope.specs.declared.severed.MemberName.{MemberName}
use Rattle.suit_envelope.specs.declared.severed.MemberName.TheVariants as names
use Rattle.suit_manifest.specs.declared.manifest.Manifest.{Manifest}
use Rattle.suit_manifest.specs.declared.manifest.Member.{Member}
use Rattle.suit_manifest.specs.declared.manifest.Member.TheVariants.{Empty, Here, Apart}
use Rattle.suit_manifest.specs.declared.manifest.Members.{Members}
use Rattle.suit_manifest.specs.declared.members.MemberFault.{MemberFault}
use Rattle.suit_manifest.specs.declared.members.MemberFault.TheVariants.{Severed, Differs, Refused, NoMemory}
use Rattle.suit_manifest.specs.Manifests.{count_said}

-- ---- one member: the content that the envelope holds for it, if any, and its place there

abbrev pub held_in : Envelope → MemberName → Option (List ℕ)
held_in envelope name = member_of (said_by envelope) name

-- the member in the envelope has the stated digest, and is this sequence
pub record IsTaken (count : ℕ) (held : Option (List ℕ)) (place : ℕ) (stated : Digest)
    (s : SequenceTree) : Type 0 where
  pub content : List ℕ
  pub there : held ≡ Some content
  pub matches : string_like stated content ≡ stated
  pub says_so : SaysWhole (SaysSequence false count levels_allowed) place content s

-- a member is taken if and only if the manifest states its digest
abbrev pub HasMember : ℕ → Option (List ℕ) → ℕ → Member → Option SequenceTree → Type 0
HasMember count held place (Apart stated) (Some s) = IsTaken count held place stated s
HasMember count held place (Apart stated) None = ⊥
HasMember count held place Empty apart = apart ≡ None
HasMember count held place (Here own) apart = apart ≡ None

-- why a member whose digest is stated cannot be taken
pub data LacksTaken (name : MemberName) (count : ℕ) (held : Option (List ℕ)) (place : ℕ)
    (stated : Digest) : MemberFault → Type 0 where
  IsSevered : held ≡ None → LacksTaken name count held place stated (Severed name)
  IsOther : (content : List ℕ) (found : Digest) → held ≡ Some content
      → found ≡ string_like stated content → found ≢ stated
      → LacksTaken name count held place stated (Differs name stated found)
  IsNoSequence : (content : List ℕ) (r : Refusal) → held ≡ Some content
      → string_like stated content ≡ stated
      → RefusesWhole (RefusesSequence false count levels_allowed) place content r
      → LacksTaken name count held place stated (Refused r)

-- why a member cannot be taken; only one whose digest is stated is taken at all
abbrev pub LacksMember : MemberName → ℕ → Option (List ℕ) → ℕ → Member → MemberFault → Type 0
LacksMember name count held place (Apart stated) fault =
    LacksTaken name count held place stated fault
LacksMember name count held place Empty fault = ⊥
LacksMember name count held place (Here own) fault = ⊥

-- ---- each of the two

abbrev pub HasPayloadFetch : EnvelopeSays → Manifest → Option SequenceTree → Type 0
HasPayloadFetch said manifest apart =
    HasMember (count_said manifest) said.payload_fetch said.payload_fetch_place
    manifest.payload_fetch apart

abbrev pub HasInstall : EnvelopeSays → Manifest → Option SequenceTree → Type 0
HasInstall said manifest apart =
    HasMember (count_said manifest) said.install said.install_place manifest.install apart

abbrev pub LacksPayloadFetch : EnvelopeSays → Manifest → MemberFault → Type 0
LacksPayloadFetch said manifest fault =
    LacksMember names.PayloadFetch (count_said manifest) said.payload_fetch said.payload_fetch_place
    manifest.payload_fetch fault

abbrev pub LacksInstall : EnvelopeSays → Manifest → MemberFault → Type 0
LacksInstall said manifest fault =
    LacksMember names.Install (count_said manifest) said.install said.install_place manifest.install
    fault

-- ---- both members

-- the manifest's number of components fits 32 bits, and the places in the envelope's members fit 64
abbrev pub CanTakeMembers : EnvelopeSays → Manifest → Type 0
CanTakeMembers said manifest =
    (length manifest.components < 2 ^ 32) × MembersEndBelow (2 ^ 64) said

-- both members are taken as the manifest states
pub record HasMembers (said : EnvelopeSays) (manifest : Manifest) (members : Members) : Type 0 where
  pub payload_fetch : HasPayloadFetch said manifest members.payload_fetch
  pub install : HasInstall said manifest members.install

-- payload-fetch is judged completely before install
pub data LacksMembers (said : EnvelopeSays) (manifest : Manifest) (fault : MemberFault)
    : Type 0 where
  ByPayloadFetch : LacksPayloadFetch said manifest fault → LacksMembers said manifest fault
  ByInstall : (fetch : Option SequenceTree) → HasPayloadFetch said manifest fetch
      → LacksInstall said manifest fault → LacksMembers said manifest fault

-- ---- answers

-- the content of a member is refused as a sequence, or memory ran out
abbrev pub RefusesContent : ℕ → ℕ → List ℕ → MemberFault → Type 0
RefusesContent count place content (Refused r) =
    RefusesWhole (RefusesSequence false count levels_allowed) place content r
RefusesContent count place content NoMemory = Unit {0}
RefusesContent count place content _ = ⊥

-- why a content was not decoded
abbrev pub content_fault : Fault → MemberFault
content_fault (faults.Refused r) = Refused r
content_fault faults.NoMemory = NoMemory

-- there was such a fault, or memory ran out
abbrev pub IsLackBy : (MemberFault → Type 0) → MemberFault → Type 0
IsLackBy lacks (Severed name) = lacks (Severed name)
IsLackBy lacks (Differs name stated found) = lacks (Differs name stated found)
IsLackBy lacks (Refused r) = lacks (Refused r)
IsLackBy lacks NoMemory = Unit {0}

-- this was taken, or memory ran out
abbrev pub IsTakenAs : {A : Type 0} → A → Result A MemberFault → Type 0
IsTakenAs wanted answer = MatchResult answer (λ found. found ≡ wanted) (λ fault. fault ≡ NoMemory)

-- this was the fault, or memory ran out
abbrev pub IsLackedAs : {A : Type 0} → MemberFault → Result A MemberFault → Type 0
IsLackedAs wanted answer = IsErrAnd answer (λ fault. (fault ≡ wanted) ⊎ (fault ≡ NoMemory))
