-- A file is opened or refused in one way.
use Rattle.std.proofs.Common.{◌≡◌, ◌⊎◌, ⊎_elim, inl, inr, ℕ, List, ap, arith, refl}
use Rattle.std.specs.List.{AllByRecursion}
use Rattle.std.proofs.lemmas.Bool.{cases_lt}
use Rattle.det_cbor.specs.DataItem.{IsByte}
use Rattle.suit_commands.specs.Capped.{capped}
use Rattle.suit_params.specs.declared.refusal.Refusal.{Refusal}
use Rattle.suit_envelope.specs.Envelopes.{EnvelopeSays}
use Rattle.suit_envelope.specs.EnvelopeLaws.{EnvelopeLaws}
use Rattle.suit_manifest.specs.declared.manifest.Manifest.{Manifest}
use Rattle.suit_manifest.specs.ManifestLaws.{ManifestLaws}
use Rattle.admission.specs.declared.refusal.NotOpened.{NotOpened}
use Rattle.admission.specs.declared.refusal.NotOpened.TheVariants as refusals
use Rattle.admission.specs.Opening.{HasManifest, HasNoManifest, IsNotOpened, IsOpened, IsWithin, Spell, SpellNone, trimmed_size}
use Rattle.admission.specs.AdmissionLaws.{OpeningLaws}
use Rattle.admission.proofs.Chain.{Chain, IsOne, Stopped, end_one, first_then, one_then, the_end}
use Rattle.admission.proofs.Judgements.{IsLong, IsShort, envelope_judged, length_judged, manifest_judged}

module _ (limit : ℕ) (bytes : List ℕ) where
  abbrev to_manifest : EnvelopeSays → Chain NotOpened
  to_manifest said = first_then (HasManifest said) (HasNoManifest said) (λ r. refusals.NoManifest r) (λ _. the_end)

  abbrev to_length : EnvelopeSays → Chain NotOpened
  to_length said = first_then (IsShort limit said) (IsLong limit said) (λ size. refusals.TooLong size) (λ _. to_manifest said)

  abbrev all : Chain NotOpened
  all = first_then (Spell bytes) (SpellNone bytes) (λ r. refusals.NoEnvelope r) to_length

  stops_so : (r : NotOpened) → IsNotOpened limit bytes r → all.stops r
  stops_so (refusals.NoEnvelope r) x = inl (Stopped r x)
  stops_so (refusals.TooLong size) x = inr (x.said, x.spell, inl (Stopped size (record { long = x.long; size_is = x.size_is })))
  stops_so (refusals.NoManifest r) x = inr (x.said, x.within.spell, inr (tt, x.within.short, inl (Stopped r x.refuses)))
  stops_so refusals.NoMemory x = absurd x

  goes_so : (said : EnvelopeSays) (manifest : Manifest) → IsOpened limit bytes said manifest → all.goes
  goes_so said manifest is = (said, is.within.spell, (tt, is.within.short, (manifest, is.says, tt)))

  module _ (envelopes : EnvelopeLaws) (manifests : ManifestLaws) where
    manifest_one : (said : EnvelopeSays) → Spell bytes said → IsOne (λ x y. x ≡ y) (to_manifest said)
    manifest_one said spell =
        one_then (λ x y. x ≡ y) (HasManifest said) (HasNoManifest said) (λ x y. x ≡ y) (λ r. refusals.NoManifest r) (λ _. the_end)
        (manifest_judged manifests said (envelopes.strings bytes said spell.envelope).manifest.1) (λ r q same. ap (λ (x : Refusal). refusals.NoManifest x) same)
        (λ _ _. end_one (λ x y. x ≡ y))

    length_one : (said : EnvelopeSays) → Spell bytes said → IsOne (λ x y. x ≡ y) (to_length said)
    length_one said spell = one_then (λ x y. x ≡ y) (IsShort limit said) (IsLong limit said) (λ x y. x ≡ y) (λ size. refusals.TooLong size) (λ _. to_manifest said)
        (length_judged limit said) (λ m n same. ap (λ (x : ℕ). refusals.TooLong x) same) (λ _ _. manifest_one said spell)

    pub all_one : IsOne (λ x y. x ≡ y) all
    all_one = one_then (λ x y. x ≡ y) (Spell bytes) (SpellNone bytes) (λ x y. x ≡ y) (λ r. refusals.NoEnvelope r) to_length
        (envelope_judged envelopes bytes) (λ r q same. ap (λ (x : Refusal). refusals.NoEnvelope x) same) length_one

-- ---- and in some way

module _ (envelopes : EnvelopeLaws) (manifests : ManifestLaws) (limit : ℕ) (bytes : List ℕ) where
  abbrev Answered : Type 0
  Answered = ((said : EnvelopeSays) × (manifest : Manifest) × IsOpened limit bytes said manifest) ⊎ ((r : NotOpened) × IsNotOpened limit bytes r)

  within_answered : (said : EnvelopeSays) → IsWithin limit bytes said → Answered
  within_answered said within =
      ⊎_elim (λ one. inl (said, one.said, record { within = within; says = one.whole }))
      (λ none. inr (refusals.NoManifest none.refusal, record { said = said; within = within; refuses = none.refuses }))
      (manifests.whole said.manifest_place said.manifest (envelopes.strings bytes said within.spell.envelope).manifest.1)

  spelled_answered : (said : EnvelopeSays) → Spell bytes said → Answered
  spelled_answered said spell =
      ⊎_elim (λ above. inr (refusals.TooLong (capped (trimmed_size said)), record { said = said; spell = spell; long = above; size_is = refl }))
      (λ below. within_answered said (record { spell = spell; short = omega (arith, below) })) (cases_lt limit (trimmed_size said))

  opening_total : AllByRecursion IsByte bytes → Answered
  opening_total are =
      ⊎_elim (λ one. spelled_answered one.said (record { are_bytes = are; envelope = one.whole }))
      (λ none. inr (refusals.NoEnvelope none.refusal, record { are_bytes = are; refuses = none.refuses })) (envelopes.whole 0 bytes are)

pub opening_laws : EnvelopeLaws → ManifestLaws → OpeningLaws
opening_laws envelopes manifests = record {
  never_both = λ limit bytes said manifest r is is_not. (all_one limit bytes envelopes manifests).never r (goes_so limit bytes said manifest is) (stops_so limit bytes r is_not);
  one_refusal = λ limit bytes r other x y. (all_one limit bytes envelopes manifests).alike r other (stops_so limit bytes r x) (stops_so limit bytes other y);
  total = opening_total envelopes manifests;
}
