-- The answer of the call that decodes a manifest, in terms of the grammar and the refusals.
use Rattle.std.proofs.Common.{◌≡◌, ◌≤◌, ℕ, List, length, Result, Ok, Err, refl, sym, ap, ◌∙◌, inl, inr}
use Rattle.std.specs.Prelude.{IfOk, IfErr}
use Rattle.det_cbor.specs.ArgumentLaws.{IsBytes}
use Rattle.det_cbor.specs.ResultLaws.{same_ok, same_err, not_both}
use Rattle.suit_params.specs.declared.refusal.Refusal.{Refusal}
use Rattle.suit_params.specs.declared.refusal.Fault.{Fault}
use Rattle.suit_params.specs.declared.refusal.Fault.TheVariants.{Refused, NoMemory}
use Rattle.suit_params.specs.Answering.{Gives, IsFaultBy, IsReadAs, IsRefusedAs}
use Rattle.suit_params.specs.Refusing.{RefusesWhole, SaysWhole}
use Rattle.suit_params.specs.Reading.{whole_judged}
use Rattle.suit_params.specs.JudgingLaws.{whole_ok, whole_err, whole_read, whole_refused}
use Rattle.suit_params.specs.HeldLaws.{whole_is}
use Rattle.suit_manifest.specs.declared.manifest.Manifest.{Manifest}
use Rattle.suit_manifest.specs.Manifests.{IsManifest, RefusesManifest}
use Rattle.suit_manifest.specs.ManifestJudging.{judge_manifest}
use Rattle.suit_manifest.specs.ManifestReading.{manifest_at, manifest_from}
use Rattle.suit_manifest.proofs.ManifestJudging.{manifest_judges}
use Rattle.suit_manifest.proofs.ManifestReads.{manifest_read}

abbrev pub ReadsManifest : ℕ → List ℕ → Result Manifest Fault → Type 0
ReadsManifest place bytes r = Gives {Y = Manifest} (λ m. m) r (manifest_from (record { left = bytes; place = place }))

read_is : (place : ℕ) (bytes : List ℕ) → IsBytes bytes → manifest_from (record { left = bytes; place = place }) ≡ whole_judged judge_manifest place bytes
read_is place bytes fits = whole_is manifest_at judge_manifest manifest_read (record { left = bytes; place = place }) fits

pub ok_says : (place : ℕ) (bytes : List ℕ) (r : Result Manifest Fault) → IsBytes bytes → ReadsManifest place bytes r → IfOk r (λ m. SaysWhole IsManifest place bytes m)
ok_says place bytes (Ok m) fits e = whole_ok judge_manifest IsManifest RefusesManifest manifest_judges place bytes m fits (sym (read_is place bytes fits) ∙ e)
ok_says place bytes (Err f) fits e = tt

-- the identifiers of the components that are said
components_said : (place : ℕ) (bytes : List ℕ) (m : Manifest) (so : SaysWhole IsManifest place bytes m) → (1 ≤ length m.components) × (length m.components ≤ 8)
components_said place bytes m so = let components = so.says_so.common.says_so.holds.says_so.components.says_so in (components.some, components.few)

pub ok_some : (place : ℕ) (bytes : List ℕ) (r : Result Manifest Fault) → IfOk r (λ m. SaysWhole IsManifest place bytes m) → IfOk r (λ m. 1 ≤ length m.components)
ok_some place bytes (Ok m) so = (components_said place bytes m so).0
ok_some place bytes (Err f) so = tt

pub ok_few : (place : ℕ) (bytes : List ℕ) (r : Result Manifest Fault) → IfOk r (λ m. SaysWhole IsManifest place bytes m) → IfOk r (λ m. length m.components ≤ 8)
ok_few place bytes (Ok m) so = (components_said place bytes m so).1
ok_few place bytes (Err f) so = tt

pub err_refuses : (place : ℕ) (bytes : List ℕ) (r : Result Manifest Fault) → IsBytes bytes → ReadsManifest place bytes r → IfErr r (IsFaultBy (RefusesWhole RefusesManifest place bytes))
err_refuses place bytes (Ok m) fits e = tt
err_refuses place bytes (Err (Refused f)) fits e = whole_err judge_manifest IsManifest RefusesManifest manifest_judges place bytes f fits (sym (read_is place bytes fits) ∙ e)
err_refuses place bytes (Err NoMemory) fits e = tt

-- the answer of the call, unless memory ran out
manifest_is : (place : ℕ) (bytes : List ℕ) (m : Manifest) → IsBytes bytes → SaysWhole IsManifest place bytes m → manifest_from (record { left = bytes; place = place }) ≡ Ok m
manifest_is place bytes m fits so = read_is place bytes fits ∙ whole_read judge_manifest IsManifest RefusesManifest manifest_judges place bytes m so

refusal_is : (place : ℕ) (bytes : List ℕ) (f : Refusal) → IsBytes bytes → RefusesWhole RefusesManifest place bytes f → manifest_from (record { left = bytes; place = place }) ≡ Err f
refusal_is place bytes f fits bad = read_is place bytes fits ∙ whole_refused judge_manifest IsManifest RefusesManifest manifest_judges place bytes f bad

pub every_manifest : (place : ℕ) (bytes : List ℕ) (r : Result Manifest Fault) → IsBytes bytes → ReadsManifest place bytes r → (m : Manifest) → SaysWhole IsManifest place bytes m → IsReadAs m r
every_manifest place bytes (Ok found) fits e m so = same_ok found m (sym e ∙ manifest_is place bytes m fits so)
every_manifest place bytes (Err (Refused f)) fits e m so = not_both _ m f (manifest_is place bytes m fits so) e
every_manifest place bytes (Err NoMemory) fits e m so = refl

pub every_refusal : (place : ℕ) (bytes : List ℕ) (r : Result Manifest Fault) → IsBytes bytes → ReadsManifest place bytes r → (f : Refusal) → RefusesWhole RefusesManifest place bytes f → IsRefusedAs f r
every_refusal place bytes (Ok found) fits e f bad = not_both _ found f e (refusal_is place bytes f fits bad)
every_refusal place bytes (Err (Refused g)) fits e f bad = inl (ap Refused (same_err g f (sym e ∙ refusal_is place bytes f fits bad)))
every_refusal place bytes (Err NoMemory) fits e f bad = inr refl
