-- The stages that judge an envelope, its manifest, and the members that stand apart (draft-ietf-suit-manifest-25, section 8).
use Rattle.std.specs.Prelude.{◌<◌, ◌≤◌, ℕ, List, codes}
use Rattle.std.specs.List.{AllByRecursion}
use Rattle.det_cbor.specs.DataItem.{IsByte}
use Rattle.suit_params.specs.declared.refusal.Refusal.{Refusal}
use Rattle.suit_envelope.specs.Envelopes.{EnvelopeSays}
use Rattle.suit_envelope.specs.Said.{EnvelopeOf, RefusesBytes}
use Rattle.suit_manifest.specs.declared.manifest.Manifest.{Manifest}
use Rattle.suit_manifest.specs.declared.manifest.Members.{Members}
use Rattle.suit_manifest.specs.declared.members.MemberFault.{MemberFault}
use Rattle.suit_manifest.specs.MembersApart.{HasMembers, LacksMembers}
use Rattle.admission.specs.Opening.{trimmed_size}
pub use Rattle.admission.specs.Opening.{HasManifest as ManifestOf, HasNoManifest as RefusesItsManifest}
use Rattle.admission.specs.Refusals.{of_members}
use Rattle.suit_cli.specs.declared.reply.Reply.{Reply}
use Rattle.suit_cli.specs.declared.reply.Outcome.TheVariants as outcomes
use Rattle.suit_cli.specs.Refusals.{TellsRefusal}
use Rattle.suit_cli.specs.Texts.{refusal_line, too_long_line}
use Rattle.suit_cli.specs.Replies.{IsReply}
use Rattle.suit_cli.specs.Stages.{Stage, judging}

-- the reply tells a refusal: its place and its reason
pub record IsRefused (Refuses : Refusal → Type 0) (reply : Reply) : Type 0 where
  pub refusal : Refusal
  pub refuses : Refuses refusal
  pub says : IsReply reply outcomes.Refused (refusal_line refusal)

-- ---- the envelope

-- each element is a byte
abbrev pub AreBytes : List ℕ → Type 0
AreBytes bytes = AllByRecursion IsByte bytes

abbrev pub envelope_in : List ℕ → Stage EnvelopeSays
envelope_in bytes =
    judging (λ said. AreBytes bytes × EnvelopeOf bytes said)
    (λ reply. AreBytes bytes × IsRefused (RefusesBytes bytes) reply)

-- the trimmed envelope is within a limit
abbrev pub IsShort : ℕ → EnvelopeSays → Type 0
IsShort limit said = trimmed_size said ≤ limit

pub record IsLong (limit : ℕ) (said : EnvelopeSays) (reply : Reply) : Type 0 where
  pub long : limit < trimmed_size said
  pub says : IsReply reply outcomes.TooLong (too_long_line (codes "envelope"))

abbrev pub short : ℕ → EnvelopeSays → Stage (Unit {0})
short limit said = judging (λ _. IsShort limit said) (IsLong limit said)

-- ---- its manifest

abbrev pub manifest_in : EnvelopeSays → Stage Manifest
manifest_in said = judging (ManifestOf said) (IsRefused (RefusesItsManifest said))

-- ---- the members that stand apart

pub record IsLack (said : EnvelopeSays) (manifest : Manifest) (reply : Reply) : Type 0 where
  pub fault : MemberFault
  pub lacks : LacksMembers said manifest fault
  pub says : TellsRefusal reply (of_members fault)

abbrev pub members_in : EnvelopeSays → Manifest → Stage Members
members_in said manifest = judging (HasMembers said manifest) (IsLack said manifest)
