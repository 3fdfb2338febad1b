-- Bytes are admitted or refused in one way only, whatever code judges them.
use Rattle.std.specs.Prelude.{◌≡◌, ◌⊎◌, ℕ, List}
use Rattle.std.specs.List.{AllByRecursion}
use Rattle.det_cbor.specs.DataItem.{IsByte}
use Rattle.suit_envelope.specs.Authentic.{TellSame}
use Rattle.suit_envelope.specs.Envelopes.{EnvelopeSays}
use Rattle.suit_commands.specs.Tree.{PlanTree}
use Rattle.suit_manifest.specs.declared.manifest.Manifest.{Manifest}
use Rattle.flash_layout.specs.declared.layout.Entry.{Entry}
use Rattle.flash_layout.specs.declared.place.Places.{Places}
use Rattle.admission.specs.declared.refusal.NotAdmitted.{NotAdmitted}
use Rattle.admission.specs.declared.refusal.NotAdmitted.TheVariants as refusals
use Rattle.admission.specs.declared.refusal.NotOpened.{NotOpened}
use Rattle.admission.specs.declared.refusal.NotSafe.{NotSafe}
use Rattle.admission.specs.declared.refusal.NotStartable.{NotStartable}
use Rattle.admission.specs.declared.refusal.NotStartable.TheVariants as not_startable
use Rattle.admission.specs.Opening.{IsNotOpened, IsOpened}
use Rattle.admission.specs.Judging.{AreSafe, IsNotSafe}
use Rattle.admission.specs.Refusals.{of_procedures}
use Rattle.admission.specs.Starting.{IsNotStartable, IsStartable, SpellManifest}
use Rattle.admission.specs.Admission.{Admission, IsAdmitted, IsNotAdmitted}

-- two refusals say the same; only the path of a procedure that is not safe may be another
abbrev pub RefuseAlike : NotAdmitted → NotAdmitted → Type 0
RefuseAlike (refusals.NoEnvelope r) (refusals.NoEnvelope other) = r ≡ other
RefuseAlike (refusals.TooLong size) (refusals.TooLong other) = size ≡ other
RefuseAlike (refusals.NotAuthentic answer) (refusals.NotAuthentic other) = TellSame answer other
RefuseAlike (refusals.NoManifest r) (refusals.NoManifest other) = r ≡ other
RefuseAlike (refusals.UnknownComponent component) (refusals.UnknownComponent other) =
    component ≡ other
RefuseAlike (refusals.Severed name) (refusals.Severed other) = name ≡ other
RefuseAlike (refusals.Differs name stated found)
    (refusals.Differs other other_stated other_found) =
    (name ≡ other) × (stated ≡ other_stated) × (found ≡ other_found)
RefuseAlike (refusals.NoSequence r) (refusals.NoSequence other) = r ≡ other
RefuseAlike (refusals.TooWide procedure width) (refusals.TooWide other other_width) =
    (procedure ≡ other) × (width ≡ other_width)
RefuseAlike (refusals.Unsafe procedure path) (refusals.Unsafe other other_path) =
    procedure ≡ other
RefuseAlike refusals.NoMemory refusals.NoMemory = Unit {0}
RefuseAlike _ _ = ⊥

-- two refusals of the same procedures say the same
abbrev pub JudgeAlike : NotSafe → NotSafe → Type 0
JudgeAlike a b = RefuseAlike (of_procedures a) (of_procedures b)

-- two refusals to start say the same
abbrev pub StartAlike : NotStartable → NotStartable → Type 0
StartAlike (not_startable.NoEnvelope r) (not_startable.NoEnvelope other) = r ≡ other
StartAlike (not_startable.NoManifest r) (not_startable.NoManifest other) = r ≡ other
StartAlike (not_startable.NotAuthentic answer) (not_startable.NotAuthentic other) =
    TellSame answer other
StartAlike (not_startable.UnknownComponent component) (not_startable.UnknownComponent other) =
    component ≡ other
StartAlike _ _ = ⊥

-- two admissions have the same envelope, manifest and members
pub record AdmitAlike (a b : Admission) : Type 0 where
  pub said : a.said ≡ b.said
  pub manifest : a.manifest ≡ b.manifest
  pub members : a.members ≡ b.members

-- ---- the laws: what is met is not refused, and is unique; what is refused has one refusal; each file is opened or
-- refused

pub record OpeningLaws : Type 0 where
  pub never_both : (limit : ℕ) (bytes : List ℕ) (said : EnvelopeSays) (manifest : Manifest)
      (r : NotOpened)
      → IsOpened limit bytes said manifest → IsNotOpened limit bytes r → ⊥
  pub one_refusal : (limit : ℕ) (bytes : List ℕ) (r other : NotOpened)
      → IsNotOpened limit bytes r → IsNotOpened limit bytes other → r ≡ other
  pub total : (limit : ℕ) (bytes : List ℕ) → AllByRecursion IsByte bytes
      → ((said : EnvelopeSays) × (manifest : Manifest) × IsOpened limit bytes said manifest)
      ⊎ ((r : NotOpened) × IsNotOpened limit bytes r)

pub record JudgingLaws : Type 0 where
  pub never_both : (update invocation : PlanTree) (r : NotSafe)
      → AreSafe update invocation → IsNotSafe update invocation r → ⊥
  pub one_refusal : (update invocation : PlanTree) (r other : NotSafe)
      → IsNotSafe update invocation r → IsNotSafe update invocation other → JudgeAlike r other

pub record AdmittingLaws : Type 0 where
  pub never_both : (limit : ℕ) (layout : List Entry) (key bytes : List ℕ) (a : Admission)
      (r : NotAdmitted)
      → IsAdmitted limit layout key bytes a → IsNotAdmitted limit layout key bytes r → ⊥
  pub one_admission : (limit : ℕ) (layout : List Entry) (key bytes : List ℕ) (a b : Admission)
      → IsAdmitted limit layout key bytes a → IsAdmitted limit layout key bytes b → AdmitAlike a b
  pub one_refusal : (limit : ℕ) (layout : List Entry) (key bytes : List ℕ)
      (r other : NotAdmitted)
      → IsNotAdmitted limit layout key bytes r → IsNotAdmitted limit layout key bytes other
      → RefuseAlike r other

pub record StartingLaws : Type 0 where
  pub never_both : (layout : List Entry) (key bytes : List ℕ) (said : EnvelopeSays)
      (manifest : Manifest) (places : Places) (r : NotStartable)
      → IsStartable layout key bytes said manifest places → IsNotStartable layout key bytes r → ⊥
  pub one_refusal : (layout : List Entry) (key bytes : List ℕ) (r other : NotStartable)
      → IsNotStartable layout key bytes r → IsNotStartable layout key bytes other
      → StartAlike r other
  -- bytes spell one manifest
  pub one_manifest : (bytes : List ℕ) (said other : EnvelopeSays) (manifest next : Manifest)
      → SpellManifest bytes said manifest → SpellManifest bytes other next
      → (said ≡ other) × (manifest ≡ next)
  -- an envelope that may be installed may be started
  pub admitted : (limit : ℕ) (layout : List Entry) (key bytes : List ℕ) (a : Admission)
      → IsAdmitted limit layout key bytes a
      → IsStartable layout key bytes a.said a.manifest a.places

pub record AdmissionLaws : Type 0 where
  pub opening : OpeningLaws
  pub judging : JudgingLaws
  pub admitting : AdmittingLaws
  pub starting : StartingLaws
