-- The answer of the call that borrows a manifest, in terms of the grammar and the refusals.
use Rattle.std.proofs.Common.{◌≡◌, ◌≤◌, length, ℕ, List, Result, Ok, Err, sym, ap, inl, inr}
use Rattle.std.specs.Prelude.{IfOk, IfErr}
use Rattle.det_cbor.specs.ArgumentLaws.{IsBytes}
use Rattle.det_cbor.specs.HeadReading.{map_ok}
use Rattle.suit_params.specs.declared.refusal.Refusal.{Refusal}
use Rattle.suit_params.specs.declared.refusal.Fault.TheVariants.{Refused, NoMemory}
use Rattle.suit_params.specs.Refusing.{RefusesWhole, SaysWhole}
use Rattle.suit_manifest.specs.declared.manifest.Manifest.{Manifest}
use Rattle.suit_manifest.specs.Manifests.{IsManifest, RefusesManifest}
use Rattle.suit_manifest.specs.ManifestReading.{manifest_from}
use Rattle.suit_manifest.proofs.ManifestAnswers.{ok_says, ok_some, ok_few, err_refuses, every_manifest, every_refusal}
use Rattle.manifest_view.specs.declared.view.ManifestView.{ManifestView}
use Rattle.manifest_view.specs.Views.{manifest_of}

abbrev pub Reads : ℕ → List ℕ → Result ManifestView Refusal → Type 0
Reads place bytes r = map_ok manifest_of r ≡ manifest_from (record { left = bytes; place = place })

pub says : (place : ℕ) (bytes : List ℕ) (r : Result ManifestView Refusal) → IsBytes bytes → Reads place bytes r → IfOk r (λ view. SaysWhole IsManifest place bytes (manifest_of view))
says place bytes (Ok view) fits e = ok_says place bytes (Ok (manifest_of view)) fits (sym e)
says place bytes (Err f) fits e = tt

pub some : (place : ℕ) (bytes : List ℕ) (r : Result ManifestView Refusal) → IfOk r (λ view. SaysWhole IsManifest place bytes (manifest_of view)) → IfOk r (λ view. 1 ≤ length view.components)
some place bytes (Ok view) so = ok_some place bytes (Ok (manifest_of view)) so
some place bytes (Err f) so = tt

pub few : (place : ℕ) (bytes : List ℕ) (r : Result ManifestView Refusal) → IfOk r (λ view. SaysWhole IsManifest place bytes (manifest_of view)) → IfOk r (λ view. length view.components ≤ 8)
few place bytes (Ok view) so = ok_few place bytes (Ok (manifest_of view)) so
few place bytes (Err f) so = tt

pub refuses : (place : ℕ) (bytes : List ℕ) (r : Result ManifestView Refusal) → IsBytes bytes → Reads place bytes r → IfErr r (RefusesWhole RefusesManifest place bytes)
refuses place bytes (Ok view) fits e = tt
refuses place bytes (Err f) fits e = err_refuses place bytes (Err (Refused f)) fits (sym e)

pub every_said : (place : ℕ) (bytes : List ℕ) (r : Result ManifestView Refusal) → IsBytes bytes → Reads place bytes r → (m : Manifest) → SaysWhole IsManifest place bytes m → map_ok manifest_of r ≡ Ok m
every_said place bytes (Ok view) fits e m so = ap (λ (m : Manifest). Ok m) (every_manifest place bytes (Ok (manifest_of view)) fits (sym e) m so)
every_said place bytes (Err f) fits e m so =
    let never : Refused f ≡ NoMemory = every_manifest place bytes (Err (Refused f)) fits (sym e) m so in absurd cc

pub every_refused : (place : ℕ) (bytes : List ℕ) (r : Result ManifestView Refusal) → IsBytes bytes → Reads place bytes r → (f : Refusal) → RefusesWhole RefusesManifest place bytes f → map_ok manifest_of r ≡ Err f
every_refused place bytes (Ok view) fits e f bad = absurd (every_refusal place bytes (Ok (manifest_of view)) fits (sym e) f bad)
every_refused place bytes (Err g) fits e f bad =
    elim (every_refusal place bytes (Err (Refused g)) fits (sym e) f bad) [
      | inl same ↦ cc
      | inr never ↦ absurd cc
    ]
