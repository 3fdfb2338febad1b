-- Answers hold in both directions, unless memory ran out.
use Rattle.std.proofs.Common.{◌≡◌, ◌≢◌, ◌⊎◌, inl, inr, ⊎_elim, ℕ, List, Result, Ok, Err, refl}
use Rattle.std.specs.Prelude.{IfErr, IfOk}
use Rattle.std.specs.Result.{IsErrAnd, IsOk}
use Rattle.manifest_view.specs.Views.{manifest_of}
use Rattle.suit_commands.specs.Tree.{PlanTree}
use Rattle.suit_envelope.specs.Envelopes.{EnvelopeSays}
use Rattle.suit_envelope.specs.Said.{said_by}
use Rattle.suit_manifest.specs.declared.manifest.Manifest.{Manifest}
use Rattle.flash_layout.specs.declared.layout.Entry.{Entry}
use Rattle.flash_layout.specs.declared.place.Places.{Places}
use Rattle.admission.specs.declared.admitting.Admitted.{Admitted}
use Rattle.admission.specs.declared.opening.Opened.{Opened}
use Rattle.admission.specs.declared.starting.Start.{Start}
use Rattle.admission.specs.declared.refusal.NotAdmitted.{NotAdmitted}
use Rattle.admission.specs.declared.refusal.NotAdmitted.TheVariants as refusals
use Rattle.admission.specs.declared.refusal.NotOpened.{NotOpened}
use Rattle.admission.specs.declared.refusal.NotOpened.TheVariants as not_opened
use Rattle.admission.specs.declared.refusal.NotSafe.{NotSafe}
use Rattle.admission.specs.declared.refusal.NotSafe.TheVariants as not_safe
use Rattle.admission.specs.declared.refusal.NotStartable.{NotStartable}
use Rattle.admission.specs.Opening.{IsNotOpened, IsOpened}
use Rattle.admission.specs.Judging.{AreSafe, IsNotSafe}
use Rattle.admission.specs.Starting.{IsNotStartable, IsStartable}
use Rattle.admission.specs.Admission.{Admission, IsAdmitted, IsNotAdmitted, admission_of}
use Rattle.admission.specs.AdmissionLaws.{AdmittingLaws, JudgeAlike, JudgingLaws, OpeningLaws, RefuseAlike, StartAlike, StartingLaws}

-- ---- opening

opening_or : (P : Type 0) (e : NotOpened) → (e ≢ not_opened.NoMemory → P) → P ⊎ (e ≡ not_opened.NoMemory)
opening_or P (not_opened.NoEnvelope r) x = inl (x (λ (same : not_opened.NoEnvelope r ≡ not_opened.NoMemory). absurd cc))
opening_or P (not_opened.TooLong n) x = inl (x (λ (same : not_opened.TooLong n ≡ not_opened.NoMemory). absurd cc))
opening_or P (not_opened.NoManifest r) x = inl (x (λ (same : not_opened.NoManifest r ≡ not_opened.NoMemory). absurd cc))
opening_or P not_opened.NoMemory x = inr refl

module _ (laws : OpeningLaws) (limit : ℕ) (bytes : List ℕ) where
  pub opened_exactly : (result : Result Opened NotOpened) → IfErr result (λ e. e ≢ not_opened.NoMemory → IsNotOpened limit bytes e)
      → (said : EnvelopeSays) (manifest : Manifest) → IsOpened limit bytes said manifest → IfErr result (λ e. e ≡ not_opened.NoMemory)
  opened_exactly (Ok o) refused said manifest is = tt
  opened_exactly (Err e) refused said manifest is =
      ⊎_elim (λ not. absurd (laws.never_both limit bytes said manifest e is not)) (λ none. none) (opening_or (IsNotOpened limit bytes e) e refused)

  pub not_opened_exactly : (result : Result Opened NotOpened) → IfOk result (λ o. IsOpened limit bytes (said_by o.envelope) o.manifest)
      → IfErr result (λ e. e ≢ not_opened.NoMemory → IsNotOpened limit bytes e)
      → (r : NotOpened) → IsNotOpened limit bytes r → IsErrAnd result (λ e. (e ≡ r) ⊎ (e ≡ not_opened.NoMemory))
  not_opened_exactly (Ok o) opened refused r not = absurd (laws.never_both limit bytes (said_by o.envelope) o.manifest r opened not)
  not_opened_exactly (Err e) opened refused r not =
      ⊎_elim (λ x. inl (laws.one_refusal limit bytes e r x not)) (λ none. inr none) (opening_or (IsNotOpened limit bytes e) e refused)

-- ---- both procedures

judging_or : (P : Type 0) (e : NotSafe) → (e ≢ not_safe.NoMemory → P) → P ⊎ (e ≡ not_safe.NoMemory)
judging_or P (not_safe.TooWide p w) x = inl (x (λ (same : not_safe.TooWide p w ≡ not_safe.NoMemory). absurd cc))
judging_or P (not_safe.Unsafe p path) x = inl (x (λ (same : not_safe.Unsafe p path ≡ not_safe.NoMemory). absurd cc))
judging_or P not_safe.NoMemory x = inr refl

module _ (laws : JudgingLaws) (u i : PlanTree) where
  pub safe_exactly : (result : Result (Unit {0}) NotSafe) → IfErr result (λ e. e ≢ not_safe.NoMemory → IsNotSafe u i e)
      → AreSafe u i → IfErr result (λ e. e ≡ not_safe.NoMemory)
  safe_exactly (Ok o) refused is = tt
  safe_exactly (Err e) refused is = ⊎_elim (λ not. absurd (laws.never_both u i e is not)) (λ none. none) (judging_or (IsNotSafe u i e) e refused)

  pub not_safe_exactly : (result : Result (Unit {0}) NotSafe) → (IsOk result → AreSafe u i) → IfErr result (λ e. e ≢ not_safe.NoMemory → IsNotSafe u i e)
      → (r : NotSafe) → IsNotSafe u i r → IsErrAnd result (λ e. JudgeAlike e r ⊎ (e ≡ not_safe.NoMemory))
  not_safe_exactly (Ok o) safe refused r not = absurd (laws.never_both u i r (safe refl) not)
  not_safe_exactly (Err e) safe refused r not = ⊎_elim (λ x. inl (laws.one_refusal u i e r x not)) (λ none. inr none) (judging_or (IsNotSafe u i e) e refused)

-- ---- admission

admitting_or : (P : Type 0) (e : NotAdmitted) → (e ≢ refusals.NoMemory → P) → P ⊎ (e ≡ refusals.NoMemory)
admitting_or P (refusals.NoEnvelope r) x = inl (x (λ (same : refusals.NoEnvelope r ≡ refusals.NoMemory). absurd cc))
admitting_or P (refusals.TooLong n) x = inl (x (λ (same : refusals.TooLong n ≡ refusals.NoMemory). absurd cc))
admitting_or P (refusals.NotAuthentic a) x = inl (x (λ (same : refusals.NotAuthentic a ≡ refusals.NoMemory). absurd cc))
admitting_or P (refusals.NoManifest r) x = inl (x (λ (same : refusals.NoManifest r ≡ refusals.NoMemory). absurd cc))
admitting_or P (refusals.UnknownComponent n) x = inl (x (λ (same : refusals.UnknownComponent n ≡ refusals.NoMemory). absurd cc))
admitting_or P (refusals.Severed n) x = inl (x (λ (same : refusals.Severed n ≡ refusals.NoMemory). absurd cc))
admitting_or P (refusals.Differs n s f) x = inl (x (λ (same : refusals.Differs n s f ≡ refusals.NoMemory). absurd cc))
admitting_or P (refusals.NoSequence r) x = inl (x (λ (same : refusals.NoSequence r ≡ refusals.NoMemory). absurd cc))
admitting_or P (refusals.TooWide p w) x = inl (x (λ (same : refusals.TooWide p w ≡ refusals.NoMemory). absurd cc))
admitting_or P (refusals.Unsafe p path) x = inl (x (λ (same : refusals.Unsafe p path ≡ refusals.NoMemory). absurd cc))
admitting_or P refusals.NoMemory x = inr refl

module _ (laws : AdmittingLaws) (limit : ℕ) (layout : List Entry) (key bytes : List ℕ) where
  pub admitted_exactly : (result : Result Admitted NotAdmitted) → IfErr result (λ e. e ≢ refusals.NoMemory → IsNotAdmitted limit layout key bytes e)
      → (a : Admission) → IsAdmitted limit layout key bytes a → IfErr result (λ e. e ≡ refusals.NoMemory)
  admitted_exactly (Ok o) refused a is = tt
  admitted_exactly (Err e) refused a is =
      ⊎_elim (λ not. absurd (laws.never_both limit layout key bytes a e is not)) (λ none. none) (admitting_or (IsNotAdmitted limit layout key bytes e) e refused)

  pub not_admitted_exactly : (result : Result Admitted NotAdmitted) → IfOk result (λ a. IsAdmitted limit layout key bytes (admission_of a))
      → IfErr result (λ e. e ≢ refusals.NoMemory → IsNotAdmitted limit layout key bytes e)
      → (r : NotAdmitted) → IsNotAdmitted limit layout key bytes r → IsErrAnd result (λ e. RefuseAlike e r ⊎ (e ≡ refusals.NoMemory))
  not_admitted_exactly (Ok a) admitted refused r not = absurd (laws.never_both limit layout key bytes (admission_of a) r admitted not)
  not_admitted_exactly (Err e) admitted refused r not =
      ⊎_elim (λ x. inl (laws.one_refusal limit layout key bytes e r x not)) (λ none. inr none) (admitting_or (IsNotAdmitted limit layout key bytes e) e refused)

-- ---- a start

module _ (laws : StartingLaws) (layout : List Entry) (key bytes : List ℕ) where
  pub startable_exactly : (result : Result Start NotStartable) → IfErr result (IsNotStartable layout key bytes)
      → (said : EnvelopeSays) (manifest : Manifest) (places : Places) → IsStartable layout key bytes said manifest places → IsOk result
  startable_exactly (Ok s) refused said manifest places is = refl
  startable_exactly (Err e) refused said manifest places is = absurd (laws.never_both layout key bytes said manifest places e is refused)

  pub not_startable_exactly : (result : Result Start NotStartable)
      → IfOk result (λ s. IsStartable layout key bytes (said_by s.envelope) (manifest_of s.manifest) s.places) → IfErr result (IsNotStartable layout key bytes)
      → (r : NotStartable) → IsNotStartable layout key bytes r → IsErrAnd result (λ e. StartAlike e r)
  not_startable_exactly (Ok s) startable refused r not = absurd (laws.never_both layout key bytes (said_by s.envelope) (manifest_of s.manifest) s.places r startable not)
  not_startable_exactly (Err e) startable refused r not = laws.one_refusal layout key bytes e r refused not
