-- Files whose procedures are safe (draft-ietf-suit-manifest-25, sections 6.4 and 8.4; what is safe is this project's
-- own).
use Rattle.std.specs.Prelude.{◌≡◌, ℕ, List}
use Rattle.admission.specs.Judging.{MayNotRun, MayRun}
use Rattle.admission.specs.Opening.{IsNotOpened, IsOpened}
use Rattle.admission.specs.declared.opening.TheConstants.{LONGEST_TRIMMED}
use Rattle.admission.specs.declared.refusal.NotOpened.{NotOpened}
use Rattle.admission.specs.declared.refusal.NotOpened.TheVariants as not_opened
use Rattle.admission.specs.declared.refusal.NotSafe.{NotSafe}
use Rattle.admission.specs.declared.refusal.NotSafe.TheVariants as refusals
use Rattle.suit_answers.specs.declared.answer.Answer.{Answer}
use Rattle.suit_answers.specs.declared.answer.Answer.TheVariants as answers
use Rattle.suit_envelope.specs.Envelopes.{EnvelopeSays}
use Rattle.suit_manifest.specs.MembersApart.{HasMembers, LacksMembers}
use Rattle.suit_manifest.specs.declared.manifest.Manifest.{Manifest}
use Rattle.suit_manifest.specs.declared.manifest.Members.{Members}
use Rattle.suit_manifest.specs.declared.members.MemberFault.{MemberFault}
use Rattle.suit_manifest.specs.declared.members.MemberFault.TheVariants as faults

-- the severed members are there, and on each path of both procedures each invoke is covered
pub record IsSafeManifest (said : EnvelopeSays) (manifest : Manifest) : Type 0 where
  pub members : Members
  pub has_members : HasMembers said manifest members
  pub safe : MayRun manifest members

-- the severed members are there, and this is why the procedures must not be run
pub record IsNotSafeManifest (said : EnvelopeSays) (manifest : Manifest) (why : NotSafe)
    : Type 0 where
  pub members : Members
  pub has_members : HasMembers said manifest members
  pub not_safe : MayNotRun manifest members why

-- the bytes are an envelope that is short enough when it is trimmed, and its manifest is safe
pub record IsSafeFile (bytes : List ℕ) : Type 0 where
  pub said : EnvelopeSays
  pub manifest : Manifest
  pub opened : IsOpened LONGEST_TRIMMED bytes said manifest
  pub safe : IsSafeManifest said manifest

pub record IsNotSafeFile (bytes : List ℕ) (why : NotSafe) : Type 0 where
  pub said : EnvelopeSays
  pub manifest : Manifest
  pub opened : IsOpened LONGEST_TRIMMED bytes said manifest
  pub not_safe : IsNotSafeManifest said manifest why

-- the answer for procedures that must not be run
abbrev pub tells_not_safe : NotSafe → Answer
tells_not_safe (refusals.TooWide procedure width) = answers.TooWide
tells_not_safe (refusals.Unsafe procedure path) = answers.Unsafe
tells_not_safe refusals.NoMemory = answers.NoMemory

-- ---- what the grammar refuses

-- the refusal of an envelope or a manifest is at this byte of the envelope
abbrev pub IsRefusalAt : NotOpened → ℕ → Type 0
IsRefusalAt (not_opened.NoEnvelope refusal) place = place ≡ refusal.place
IsRefusalAt (not_opened.NoManifest refusal) place = place ≡ refusal.place
IsRefusalAt _ place = ⊥

abbrev pub IsMemberRefusalAt : MemberFault → ℕ → Type 0
IsMemberRefusalAt (faults.Refused refusal) place = place ≡ refusal.place
IsMemberRefusalAt _ place = ⊥

-- a severed member is refused as a sequence, at this byte of the envelope
pub record RefusesMemberAt (said : EnvelopeSays) (manifest : Manifest) (place : ℕ) : Type 0 where
  pub fault : MemberFault
  pub lacks : LacksMembers said manifest fault
  pub at : IsMemberRefusalAt fault place

-- the envelope, its manifest, or a severed member is refused at this byte of the envelope
pub data IsRefusedAt (bytes : List ℕ) (place : ℕ) : Type 0 where
  AtOpening : (refusal : NotOpened) → IsNotOpened LONGEST_TRIMMED bytes refusal
      → IsRefusalAt refusal place → IsRefusedAt bytes place
  AtMember : (said : EnvelopeSays) (manifest : Manifest)
      → IsOpened LONGEST_TRIMMED bytes said manifest → RefusesMemberAt said manifest place
      → IsRefusedAt bytes place
