-- The bytes of a bank start one manifest, or nothing for one cause.
use Rattle.std.proofs.Common.{◌≡◌, ⊎_elim, inl, inr, ℕ, List, refl, sym, ◌∙◌, ap}
use Rattle.suit_params.specs.declared.refusal.Refusal.{Refusal}
use Rattle.suit_envelope.specs.declared.authenticity.Authenticity.{Authenticity}
use Rattle.suit_envelope.specs.declared.authenticity.Authenticity.TheVariants as answers
use Rattle.suit_envelope.specs.Authentic.{TellSame}
use Rattle.suit_envelope.specs.Envelopes.{EnvelopeSays}
use Rattle.suit_envelope.specs.Trimmed.{trimmed_says}
use Rattle.suit_manifest.specs.declared.manifest.Manifest.{Manifest}
use Rattle.flash_layout.specs.declared.key.Key.{Key}
use Rattle.flash_layout.specs.declared.layout.Entry.{Entry}
use Rattle.flash_layout.specs.declared.slot.Record.{Record}
use Rattle.rollback_record.specs.SoundFlash.{IsInstalled, key_bytes}
use Rattle.admission.specs.declared.refusal.NotStartable.{NotStartable}
use Rattle.admission.specs.declared.refusal.NotStartable.TheVariants as refusals
use Rattle.admission.specs.AdmissionLaws.{StartAlike, StartingLaws}
use Rattle.admission.specs.Starting.{IsNotStartable}
use Rattle.invoke_proc.specs.declared.boot_end.Lacking.{Lacking}
use Rattle.invoke_proc.specs.declared.boot_end.BootEnd.{BootEnd}
use Rattle.invoke_proc.specs.declared.boot_end.BootEnd.TheVariants as ends
use Rattle.invoke_proc.specs.Starting.{IsDeclined, IsStarted, declined_as, lacking_in}
use Rattle.invoke_proc.proofs.Placed.{placed}

-- ---- refusals that are alike are told alike

same_lacking : (a b : Authenticity) → TellSame a b → lacking_in a ≡ lacking_in b
same_lacking answers.Yes answers.Yes same = refl
same_lacking (answers.DigestDiffers s f) (answers.DigestDiffers t g) same = refl
same_lacking answers.NoMac answers.NoMac same = refl
same_lacking (answers.MacDiffers e f) (answers.MacDiffers d g) same = refl
same_lacking _ _ same = absurd same

same_end : (r q : NotStartable) → StartAlike r q → declined_as r ≡ declined_as q
same_end (refusals.NoEnvelope r) (refusals.NoEnvelope s) same = ap (λ (t : Refusal). ends.BadBank t) same
same_end (refusals.NoManifest r) (refusals.NoManifest s) same = ap (λ (t : Refusal). ends.BadBank t) same
same_end (refusals.NotAuthentic a) (refusals.NotAuthentic b) same = ap (λ (t : Lacking). ends.NotAuthentic t) (same_lacking a b same)
same_end (refusals.UnknownComponent i) (refusals.UnknownComponent j) same = ap (λ (t : ℕ). ends.UnknownComponent t) same
same_end _ _ same = absurd same

module _ (layout : List Entry) (key bytes : List ℕ) where
  -- ---- bytes that are refused are declined, and those that are declined refused

  pub declined : (r : NotStartable) → IsNotStartable layout key bytes r → IsDeclined layout key bytes (declined_as r)
  declined (refusals.NoEnvelope r) is = inl is
  declined (refusals.NoManifest r) is = inr is
  declined (refusals.NotAuthentic a) is = (a, refl, is)
  declined (refusals.UnknownComponent i) is = is

  abbrev Refused : BootEnd → Type 0
  Refused end = (r : NotStartable) × (declined_as r ≡ end) × IsNotStartable layout key bytes r

  refused : (end : BootEnd) → IsDeclined layout key bytes end → Refused end
  refused (ends.BadBank r) x = ⊎_elim (λ none. (refusals.NoEnvelope r, refl, none)) (λ none. (refusals.NoManifest r, refl, none)) x
  refused (ends.NotAuthentic lacking) x = (refusals.NotAuthentic x.0, ap (λ (t : Lacking). ends.NotAuthentic t) x.1, x.2)
  refused (ends.UnknownComponent i) x = (refusals.UnknownComponent i, refl, x)
  refused _ x = absurd x

  -- ---- one cause, or a start

  module _ (laws : StartingLaws) where
    pub one_cause : (a b : BootEnd) → IsDeclined layout key bytes a → IsDeclined layout key bytes b → a ≡ b
    one_cause a b x y =
        let r = refused a x in
        let q = refused b y in
        sym r.1 ∙ same_end r.0 q.0 (laws.one_refusal layout key bytes r.0 q.0 r.2 q.2) ∙ q.1

    module _ (said : EnvelopeSays) (m : Manifest) (is : IsStarted layout key bytes said m) where
      never : (r : NotStartable) → IsNotStartable layout key bytes r → ⊥
      never r is_not = laws.never_both layout key bytes said m is.0 r is.1 is_not

      pub no_cause : (end : BootEnd) → IsDeclined layout key bytes end → ⊥
      no_cause (ends.BadBank r) x = ⊎_elim (never (refusals.NoEnvelope r)) (never (refusals.NoManifest r)) x
      no_cause (ends.NotAuthentic lacking) x = never (refusals.NotAuthentic x.0) x.2
      no_cause (ends.UnknownComponent i) x = never (refusals.UnknownComponent i) x
      no_cause _ x = x

-- an installed envelope is started
pub is_started : (layout : List Entry) (key : Key) (bytes : List ℕ) (r : Record) (is : IsInstalled layout key bytes r)
    → IsStarted layout (key_bytes key) bytes (trimmed_says is.wrapper is.manifest) is.said
is_started layout key bytes r is =
    let places = placed layout is.said.components is.components in (
      places.0,
      record {
        spell = record { spell = record { are_bytes = is.are_bytes; envelope = is.envelope }; says = is.says };
        authentic = is.authentic;
        placed = places.1;
      },
    )
