-- An envelope may be started or is refused in one way.
use Rattle.std.proofs.Common.{◌≡◌, inl, inr, ℕ, List, sym, subst}
use Rattle.suit_envelope.specs.Envelopes.{EnvelopeSays}
use Rattle.suit_envelope.specs.Authentic.{TellSame}
use Rattle.suit_envelope.specs.EnvelopeLaws.{AuthenticityLaw, EnvelopeLaws}
use Rattle.suit_manifest.specs.declared.manifest.Manifest.{Manifest}
use Rattle.suit_manifest.specs.ManifestLaws.{ManifestLaws}
use Rattle.flash_layout.specs.declared.layout.Entry.{Entry}
use Rattle.flash_layout.specs.declared.place.Places.{Places}
use Rattle.flash_layout.specs.Placement.{IsFirstUnknown}
use Rattle.admission.specs.declared.refusal.NotStartable.{NotStartable}
use Rattle.admission.specs.declared.refusal.NotStartable.TheVariants as refusals
use Rattle.admission.specs.Opening.{HasManifest, HasNoManifest, Spell, SpellNone}
use Rattle.admission.specs.Admission.{Admission, IsAdmitted, IsUnauthentic}
use Rattle.admission.specs.Starting.{IsNotStartable, IsStartable, SpellManifest}
use Rattle.admission.specs.AdmissionLaws.{StartAlike, StartingLaws}
use Rattle.admission.proofs.Chain.{Chain, IsOne, Stopped, end_one, first_then, one_then, the_end}
use Rattle.admission.proofs.Judgements.{ArePlaced, AuthenticUnder, authenticity_judged, envelope_judged, manifest_judged, places_judged}

module _ (layout : List Entry) (key bytes : List ℕ) where
  abbrev to_places : Manifest → Chain NotStartable
  to_places manifest = first_then (ArePlaced layout manifest) (IsFirstUnknown layout manifest.components) (λ component. refusals.UnknownComponent component) (λ _. the_end)

  abbrev to_authenticity : EnvelopeSays → Manifest → Chain NotStartable
  to_authenticity said manifest = first_then (AuthenticUnder key said) (IsUnauthentic said key) (λ answer. refusals.NotAuthentic answer) (λ _. to_places manifest)

  abbrev to_manifest : EnvelopeSays → Chain NotStartable
  to_manifest said = first_then (HasManifest said) (HasNoManifest said) (λ r. refusals.NoManifest r) (to_authenticity said)

  abbrev all : Chain NotStartable
  all = first_then (Spell bytes) (SpellNone bytes) (λ r. refusals.NoEnvelope r) to_manifest

  past_manifest : (said : EnvelopeSays) (manifest : Manifest) (r : NotStartable) → SpellManifest bytes said manifest → (to_authenticity said manifest).stops r → all.stops r
  past_manifest said manifest r spell stops = inr (said, spell.spell, inr (manifest, spell.says, stops))

  stops_so : (r : NotStartable) → IsNotStartable layout key bytes r → all.stops r
  stops_so (refusals.NoEnvelope r) x = inl (Stopped r x)
  stops_so (refusals.NoManifest r) x = inr (x.said, x.spell, inl (Stopped r x.refuses))
  stops_so (refusals.NotAuthentic answer) x = past_manifest x.said x.manifest (refusals.NotAuthentic answer) x.spell (inl (Stopped answer x.unauthentic))
  stops_so (refusals.UnknownComponent component) x =
      past_manifest x.said x.manifest (refusals.UnknownComponent component) x.spell (inr (tt, x.authentic, inl (Stopped component x.unknown)))

  goes_so : (said : EnvelopeSays) (manifest : Manifest) (places : Places) → IsStartable layout key bytes said manifest places → all.goes
  goes_so said manifest places is = (said, is.spell.spell, (manifest, is.spell.says, (tt, is.authentic, (tt, (places, is.placed), tt))))

  module _ (envelopes : EnvelopeLaws) (authenticity : AuthenticityLaw) (manifests : ManifestLaws) where
    places_one : (manifest : Manifest) → IsOne StartAlike (to_places manifest)
    places_one manifest = one_then StartAlike (ArePlaced layout manifest) (IsFirstUnknown layout manifest.components) (λ x y. x ≡ y) (λ component. refusals.UnknownComponent component) (λ _. the_end)
        (places_judged layout manifest) (λ a b same. same) (λ _ _. end_one StartAlike)

    authenticity_one : (said : EnvelopeSays) → Spell bytes said → (manifest : Manifest) → IsOne StartAlike (to_authenticity said manifest)
    authenticity_one said spell manifest =
        one_then StartAlike (AuthenticUnder key said) (IsUnauthentic said key) TellSame (λ answer. refusals.NotAuthentic answer) (λ _. to_places manifest)
        (authenticity_judged authenticity said (envelopes.wrapper bytes said spell.envelope) key) (λ a b same. same) (λ _ _. places_one manifest)

    manifest_one : (said : EnvelopeSays) → Spell bytes said → IsOne StartAlike (to_manifest said)
    manifest_one said spell =
        one_then StartAlike (HasManifest said) (HasNoManifest said) (λ x y. x ≡ y) (λ r. refusals.NoManifest r) (to_authenticity said)
        (manifest_judged manifests said (envelopes.strings bytes said spell.envelope).manifest.1) (λ r q same. same) (λ manifest _. authenticity_one said spell manifest)

    pub all_one : IsOne StartAlike all
    all_one = one_then StartAlike (Spell bytes) (SpellNone bytes) (λ x y. x ≡ y) (λ r. refusals.NoEnvelope r) to_manifest
        (envelope_judged envelopes bytes) (λ r q same. same) manifest_one

module _ (envelopes : EnvelopeLaws) (manifests : ManifestLaws) (bytes : List ℕ) (said other : EnvelopeSays) (m n : Manifest) where
  one_manifest : SpellManifest bytes said m → SpellManifest bytes other n → (said ≡ other) × (m ≡ n)
  one_manifest x y =
      let same = (envelope_judged envelopes bytes).same said other x.spell y.spell in
      let says = subst (λ (s : EnvelopeSays). HasManifest s n) (sym same) y.says in
      (same, (manifest_judged manifests said (envelopes.strings bytes said x.spell.envelope).manifest.1).same m n x.says says)

admitted_starts : (limit : ℕ) (layout : List Entry) (key bytes : List ℕ) (a : Admission) → IsAdmitted limit layout key bytes a → IsStartable layout key bytes a.said a.manifest a.places
admitted_starts limit layout key bytes a is =
    let offered = is.complete.offered in
    record {
      spell = record { spell = offered.are_authentic.within.spell; says = offered.says };
      authentic = offered.are_authentic.authentic;
      placed = is.complete.placed;
    }

pub starting_laws : EnvelopeLaws → AuthenticityLaw → ManifestLaws → StartingLaws
starting_laws envelopes authenticity manifests = record {
  never_both = λ layout key bytes said manifest places r is is_not.
      (all_one layout key bytes envelopes authenticity manifests).never r (goes_so layout key bytes said manifest places is) (stops_so layout key bytes r is_not);
  one_refusal = λ layout key bytes r other x y.
      (all_one layout key bytes envelopes authenticity manifests).alike r other (stops_so layout key bytes r x) (stops_so layout key bytes other y);
  one_manifest = one_manifest envelopes manifests;
  admitted = admitted_starts;
}
