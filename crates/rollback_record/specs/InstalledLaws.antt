-- Reading a bank that holds an installed envelope: it has the envelope and the manifest that were judged, and nothing
-- of it is refused.
use Rattle.std.specs.Prelude.{◌≡◌, ℕ, List}
use Rattle.suit_params.specs.declared.refusal.Refusal.{Refusal}
use Rattle.suit_params.specs.Refusing.{RefusesWhole, SaysWhole}
use Rattle.suit_envelope.specs.Envelopes.{EnvelopeSays}
use Rattle.suit_envelope.specs.Said.{EnvelopeOf, RefusesBytes}
use Rattle.suit_envelope.specs.Trimmed.{trimmed_says}
use Rattle.suit_manifest.specs.declared.manifest.Manifest.{Manifest}
use Rattle.suit_manifest.specs.Manifests.{IsManifest, RefusesManifest}
use Rattle.flash_layout.specs.declared.key.Key.{Key}
use Rattle.flash_layout.specs.declared.layout.Entry.{Entry}
use Rattle.flash_layout.specs.declared.slot.Record.{Record}
use Rattle.flash_layout.specs.Placement.{IsFirstUnknown}
use Rattle.rollback_record.specs.SoundFlash.{IsInstalled}

-- the bytes of an installed envelope are read as what was installed
pub record AreReadAsInstalled (layout : List Entry) (key : Key) (bytes : List ℕ) (r : Record)
    (is : IsInstalled layout key bytes r) : Type 0 where
  -- their envelope has the installed wrapper and manifest
  pub envelope : (said : EnvelopeSays) → EnvelopeOf bytes said
      → said ≡ trimmed_says is.wrapper is.manifest
  pub refused : (e : Refusal) → RefusesBytes bytes e → ⊥
  -- their manifest is the installed one
  pub manifest : (m : Manifest)
      → SaysWhole IsManifest (trimmed_says is.wrapper is.manifest).manifest_place is.manifest m
      → m ≡ is.said
  pub manifest_refused : (e : Refusal)
      → RefusesWhole RefusesManifest (trimmed_says is.wrapper is.manifest).manifest_place
      is.manifest e
      → ⊥
  -- the layout has all components of that manifest
  pub known : (component : ℕ) → IsFirstUnknown layout is.said.components component → ⊥

abbrev pub InstalledLaw : Type 0
InstalledLaw = (layout : List Entry) (key : Key) (bytes : List ℕ) (r : Record) (is : IsInstalled layout key bytes r) → AreReadAsInstalled layout key bytes r is
