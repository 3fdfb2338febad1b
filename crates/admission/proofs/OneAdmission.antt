-- Bytes are admitted or refused in one way.
use Rattle.std.proofs.Common.{◌≡◌, inl, inr, ℕ, List, refl, sym, subst}
use Rattle.suit_envelope.specs.Envelopes.{EnvelopeSays}
use Rattle.suit_envelope.specs.Authentic.{TellSame}
use Rattle.suit_envelope.specs.EnvelopeLaws.{AuthenticityLaw, EnvelopeLaws}
use Rattle.suit_manifest.specs.declared.manifest.Manifest.{Manifest}
use Rattle.suit_manifest.specs.declared.manifest.Members.{Members}
use Rattle.suit_manifest.specs.declared.members.MemberFault.{MemberFault}
use Rattle.suit_manifest.specs.declared.members.MemberFault.TheVariants as faults
use Rattle.suit_manifest.specs.ManifestLaws.{ManifestLaws}
use Rattle.suit_manifest.specs.MembersApart.{HasMembers, LacksMembers}
use Rattle.suit_manifest.specs.MembersLaws.{MembersLaws}
use Rattle.suit_manifest.specs.Procedures.{invocation_tree, update_tree}
use Rattle.path_model.specs.CoverLaws.{BadPathRefutes}
use Rattle.flash_layout.specs.declared.layout.Entry.{Entry}
use Rattle.flash_layout.specs.Placement.{IsFirstUnknown}
use Rattle.admission.specs.declared.refusal.NotAdmitted.{NotAdmitted}
use Rattle.admission.specs.declared.refusal.NotAdmitted.TheVariants as refusals
use Rattle.admission.specs.declared.refusal.NotSafe.{NotSafe}
use Rattle.admission.specs.declared.refusal.NotSafe.TheVariants as not_safe
use Rattle.admission.specs.Opening.{HasManifest, HasNoManifest, Spell, SpellNone}
use Rattle.admission.specs.Judging.{IsNotSafe}
use Rattle.admission.specs.Admission.{Admission, AreAuthentic, IsAdmitted, IsNotAdmitted, IsOffered, IsUnauthentic, LacksMember, LacksSafety}
use Rattle.admission.specs.AdmissionLaws.{AdmittingLaws, AdmitAlike, JudgeAlike, RefuseAlike}
use Rattle.admission.specs.Refusals.{of_members, of_procedures}
use Rattle.admission.proofs.Chain.{Chain, IsOne, Stopped, end_one, first_then, one_then, the_end}
use Rattle.admission.proofs.Judgements.{ArePlaced, AuthenticUnder, IsLong, IsShort, ProceduresSafe, authenticity_judged, envelope_judged, length_judged, manifest_judged, members_judged, places_judged, procedures_judged}

-- ---- refusals of steps are alike as refusals of all

members_self : (fault : MemberFault) → RefuseAlike (of_members fault) (of_members fault)
members_self (faults.Severed name) = refl
members_self (faults.Differs name stated found) = (refl, refl, refl)
members_self (faults.Refused r) = refl
members_self faults.NoMemory = tt

members_tell : (f g : MemberFault) → f ≡ g → RefuseAlike (of_members f) (of_members g)
members_tell f g same = subst (λ (h : MemberFault). RefuseAlike (of_members f) (of_members h)) same (members_self f)

module _ (limit : ℕ) (layout : List Entry) (key bytes : List ℕ) where
  -- ---- the judgements in their order

  abbrev to_procedures : Manifest → Members → Chain NotAdmitted
  to_procedures manifest members =
      first_then (ProceduresSafe (update_tree manifest members) (invocation_tree manifest)) (IsNotSafe (update_tree manifest members) (invocation_tree manifest)) of_procedures (λ _. the_end)

  abbrev to_members : EnvelopeSays → Manifest → Chain NotAdmitted
  to_members said manifest = first_then (HasMembers said manifest) (LacksMembers said manifest) of_members (to_procedures manifest)

  abbrev to_places : EnvelopeSays → Manifest → Chain NotAdmitted
  to_places said manifest =
      first_then (ArePlaced layout manifest) (IsFirstUnknown layout manifest.components) (λ component. refusals.UnknownComponent component) (λ _. to_members said manifest)

  abbrev to_manifest : EnvelopeSays → Chain NotAdmitted
  to_manifest said = first_then (HasManifest said) (HasNoManifest said) (λ r. refusals.NoManifest r) (to_places said)

  abbrev to_authenticity : EnvelopeSays → Chain NotAdmitted
  to_authenticity said = first_then (AuthenticUnder key said) (IsUnauthentic said key) (λ answer. refusals.NotAuthentic answer) (λ _. to_manifest said)

  abbrev to_length : EnvelopeSays → Chain NotAdmitted
  to_length said = first_then (IsShort limit said) (IsLong limit said) (λ size. refusals.TooLong size) (λ _. to_authenticity said)

  abbrev all : Chain NotAdmitted
  all = first_then (Spell bytes) (SpellNone bytes) (λ r. refusals.NoEnvelope r) to_length

  -- ---- refusals stop at their judgement

  past_envelope : (said : EnvelopeSays) (r : NotAdmitted) → Spell bytes said → (to_length said).stops r → all.stops r
  past_envelope said r spell stops = inr (said, spell, stops)

  past_authenticity : (said : EnvelopeSays) (r : NotAdmitted) → AreAuthentic limit key bytes said → (to_manifest said).stops r → all.stops r
  past_authenticity said r are stops = past_envelope said r are.within.spell (inr (tt, are.within.short, inr (tt, are.authentic, stops)))

  past_manifest : (said : EnvelopeSays) (manifest : Manifest) (r : NotAdmitted) → IsOffered limit key bytes said manifest → (to_places said manifest).stops r → all.stops r
  past_manifest said manifest r is stops = past_authenticity said r is.are_authentic (inr (manifest, is.says, stops))

  member_stops : (fault : MemberFault) → LacksMember limit layout key bytes fault → all.stops (of_members fault)
  member_stops fault x = past_manifest x.said x.manifest (of_members fault) x.offered (inr (tt, (x.places, x.placed), inl (Stopped fault x.lacks)))

  procedure_stops : (refusal : NotSafe) → LacksSafety limit layout key bytes refusal → all.stops (of_procedures refusal)
  procedure_stops refusal x =
      let a = x.of in
      past_manifest a.said a.manifest (of_procedures refusal) x.complete.offered
      (inr (tt, (a.places, x.complete.placed), inr (a.members, x.complete.members, inl (Stopped refusal x.refuses))))

  stops_so : (r : NotAdmitted) → IsNotAdmitted limit layout key bytes r → all.stops r
  stops_so (refusals.NoEnvelope r) x = inl (Stopped r x)
  stops_so (refusals.TooLong size) x = past_envelope x.said (refusals.TooLong size) x.spell (inl (Stopped size (record { long = x.long; size_is = x.size_is })))
  stops_so (refusals.NotAuthentic answer) x =
      past_envelope x.said (refusals.NotAuthentic answer) x.within.spell (inr (tt, x.within.short, inl (Stopped answer x.unauthentic)))
  stops_so (refusals.NoManifest r) x = past_authenticity x.said (refusals.NoManifest r) x.are_authentic (inl (Stopped r x.refuses))
  stops_so (refusals.UnknownComponent component) x =
      past_manifest x.said x.manifest (refusals.UnknownComponent component) x.offered (inl (Stopped component x.unknown))
  stops_so (refusals.Severed name) x = member_stops (faults.Severed name) x
  stops_so (refusals.Differs name stated found) x = member_stops (faults.Differs name stated found) x
  stops_so (refusals.NoSequence r) x = member_stops (faults.Refused r) x
  stops_so (refusals.TooWide procedure width) x = procedure_stops (not_safe.TooWide procedure width) x
  stops_so (refusals.Unsafe procedure path) x = procedure_stops (not_safe.Unsafe procedure path) x
  stops_so refusals.NoMemory x = absurd x

  goes_so : (a : Admission) → IsAdmitted limit layout key bytes a → all.goes
  goes_so a is =
      let all_met = is.complete in
      let are = all_met.offered.are_authentic in (
        a.said,
        are.within.spell,
        (
          tt,
          are.within.short,
          (
            tt,
            are.authentic,
            (a.manifest, all_met.offered.says, (tt, (a.places, all_met.placed), (a.members, all_met.members, (tt, is.safe, tt)))),
          ),
        ),
      )

  -- ---- each has one answer

  module _ (envelopes : EnvelopeLaws) (authenticity : AuthenticityLaw) (manifests : ManifestLaws) (members : MembersLaws) (refutes : BadPathRefutes) where
    module _ (said : EnvelopeSays) (spell : Spell bytes said) where
      procedures_one : (manifest : Manifest) (apart : Members) → IsOne RefuseAlike (to_procedures manifest apart)
      procedures_one manifest apart = one_then RefuseAlike (ProceduresSafe (update_tree manifest apart) (invocation_tree manifest)) (IsNotSafe (update_tree manifest apart) (invocation_tree manifest)) JudgeAlike of_procedures (λ _. the_end)
          (procedures_judged refutes (update_tree manifest apart) (invocation_tree manifest)) (λ r q same. same) (λ _ _. end_one RefuseAlike)

      members_one : (manifest : Manifest) → IsOne RefuseAlike (to_members said manifest)
      members_one manifest = one_then RefuseAlike (HasMembers said manifest) (LacksMembers said manifest) (λ x y. x ≡ y) of_members (to_procedures manifest)
          (members_judged members bytes said manifest spell) members_tell (λ apart _. procedures_one manifest apart)

      places_one : (manifest : Manifest) → IsOne RefuseAlike (to_places said manifest)
      places_one manifest = one_then RefuseAlike (ArePlaced layout manifest) (IsFirstUnknown layout manifest.components) (λ x y. x ≡ y) (λ component. refusals.UnknownComponent component) (λ _. to_members said manifest)
          (places_judged layout manifest) (λ a b same. same) (λ _ _. members_one manifest)

      manifest_one : IsOne RefuseAlike (to_manifest said)
      manifest_one = one_then RefuseAlike (HasManifest said) (HasNoManifest said) (λ x y. x ≡ y) (λ r. refusals.NoManifest r) (to_places said)
          (manifest_judged manifests said (envelopes.strings bytes said spell.envelope).manifest.1) (λ r q same. same) (λ manifest _. places_one manifest)

      authenticity_one : IsOne RefuseAlike (to_authenticity said)
      authenticity_one = one_then RefuseAlike (AuthenticUnder key said) (IsUnauthentic said key) TellSame (λ answer. refusals.NotAuthentic answer) (λ _. to_manifest said)
          (authenticity_judged authenticity said (envelopes.wrapper bytes said spell.envelope) key) (λ a b same. same) (λ _ _. manifest_one)

      length_one : IsOne RefuseAlike (to_length said)
      length_one = one_then RefuseAlike (IsShort limit said) (IsLong limit said) (λ x y. x ≡ y) (λ size. refusals.TooLong size) (λ _. to_authenticity said)
          (length_judged limit said) (λ m n same. same) (λ _ _. authenticity_one)

    all_one : IsOne RefuseAlike all
    all_one = one_then RefuseAlike (Spell bytes) (SpellNone bytes) (λ x y. x ≡ y) (λ r. refusals.NoEnvelope r) to_length
        (envelope_judged envelopes bytes) (λ r q same. same) length_one

    pub never_both : (a : Admission) (r : NotAdmitted) → IsAdmitted limit layout key bytes a → IsNotAdmitted limit layout key bytes r → ⊥
    never_both a r is is_not = all_one.never r (goes_so a is) (stops_so r is_not)

    pub one_refusal : (r other : NotAdmitted) → IsNotAdmitted limit layout key bytes r → IsNotAdmitted limit layout key bytes other → RefuseAlike r other
    one_refusal r other x y = all_one.alike r other (stops_so r x) (stops_so other y)

    pub one_admission : (a b : Admission) → IsAdmitted limit layout key bytes a → IsAdmitted limit layout key bytes b → AdmitAlike a b
    one_admission a b x y =
        let spell = x.complete.offered.are_authentic.within.spell in
        let said = (envelope_judged envelopes bytes).same a.said b.said spell y.complete.offered.are_authentic.within.spell in
        let says = subst (λ (s : EnvelopeSays). HasManifest s b.manifest) (sym said) y.complete.offered.says in
        let manifest = (manifest_judged manifests a.said (envelopes.strings bytes a.said spell.envelope).manifest.1).same a.manifest b.manifest x.complete.offered.says says in
        let has = subst (λ (s : EnvelopeSays). HasMembers s b.manifest b.members) (sym said) y.complete.members in
        let there = subst (λ (m : Manifest). HasMembers a.said m b.members) (sym manifest) has in
        record {
          said = said;
          manifest = manifest;
          members = (members_judged members bytes a.said a.manifest spell).same a.members b.members x.complete.members there;
        }

pub admitting_laws : EnvelopeLaws → AuthenticityLaw → ManifestLaws → MembersLaws → BadPathRefutes → AdmittingLaws
admitting_laws envelopes authenticity manifests members refutes = record {
  never_both = λ limit layout key bytes. never_both limit layout key bytes envelopes authenticity manifests members refutes;
  one_admission = λ limit layout key bytes. one_admission limit layout key bytes envelopes authenticity manifests members refutes;
  one_refusal = λ limit layout key bytes. one_refusal limit layout key bytes envelopes authenticity manifests members refutes;
}
