-- The places that are told are those of what the grammar refuses.
use Rattle.std.specs.Prelude.{◌≢◌, ℕ, List}
use Rattle.admission.specs.Opening.{IsNotOpened}
use Rattle.admission.specs.declared.opening.TheConstants.{LONGEST_TRIMMED}
use Rattle.admission.specs.declared.refusal.NotOpened.{NotOpened}
use Rattle.admission.specs.declared.refusal.NotOpened.TheVariants as not_opened
use Rattle.check_c.specs.Checking.{AtOpening, IsMemberRefusalAt, IsRefusalAt, IsRefusedAt, RefusesMemberAt}
use Rattle.suit_envelope.specs.Envelopes.{EnvelopeSays}
use Rattle.suit_manifest.specs.MembersApart.{IsLackBy, LacksMembers}
use Rattle.suit_manifest.specs.declared.manifest.Manifest.{Manifest}
use Rattle.suit_manifest.specs.declared.members.MemberFault.{MemberFault}
use Rattle.suit_manifest.specs.declared.members.MemberFault.TheVariants as faults

pub member_refused : (said : EnvelopeSays) (manifest : Manifest) (fault : MemberFault) (place : ℕ) → IsMemberRefusalAt fault place → IsLackBy (LacksMembers said manifest) fault → RefusesMemberAt said manifest place
member_refused said manifest (faults.Severed name) place at lacks = absurd at
member_refused said manifest (faults.Differs name stated found) place at lacks = absurd at
member_refused said manifest (faults.Refused refusal) place at lacks = record { fault = faults.Refused refusal; lacks = lacks; at = at }
member_refused said manifest faults.NoMemory place at lacks = absurd at

pub opening_refused : (bytes : List ℕ) (refusal : NotOpened) (place : ℕ) → IsRefusalAt refusal place → (refusal ≢ not_opened.NoMemory → IsNotOpened LONGEST_TRIMMED bytes refusal) → IsRefusedAt bytes place
opening_refused bytes (not_opened.NoEnvelope refusal) place at is = AtOpening (not_opened.NoEnvelope refusal) (is (λ e. absurd cc)) at
opening_refused bytes (not_opened.TooLong size) place at is = absurd at
opening_refused bytes (not_opened.NoManifest refusal) place at is = AtOpening (not_opened.NoManifest refusal) (is (λ e. absurd cc)) at
opening_refused bytes not_opened.NoMemory place at is = absurd at
