-- What is judged of a manifest at its place in an envelope holds of it in the trimmed envelope.
use Rattle.std.specs.Prelude.{◌≡◌, ◌≤◌, ℕ, List}
use Rattle.suit_params.specs.Refusing.{SaysWhole}
use Rattle.suit_commands.specs.Numbers.{width_number}
use Rattle.suit_envelope.specs.Authentic.{IsAuthentic}
use Rattle.suit_envelope.specs.Envelopes.{EnvelopeSays}
use Rattle.suit_envelope.specs.Said.{EnvelopeOf}
use Rattle.suit_envelope.specs.Trimmed.{trimmed}
use Rattle.suit_envelope.specs.WrapperParts.{WrapperSays}
use Rattle.suit_manifest.specs.declared.manifest.Manifest.{Manifest}
use Rattle.suit_manifest.specs.Manifests.{IsManifest}
use Rattle.suit_manifest.specs.Procedures.{invocation_tree}
use Rattle.path_model.specs.Safe.{Safe}
use Rattle.flash_layout.specs.declared.key.Key.{Key}
use Rattle.flash_layout.specs.declared.layout.Entry.{Entry}
use Rattle.flash_layout.specs.declared.slot.Record.{Record}
use Rattle.rollback_record.specs.SoundFlash.{HasEach, IsInstalled, key_bytes, widest}

-- A wrapper and a manifest at some place that are authentic under the key, and judged as what is installed has to be.
-- The record has the manifest's sequence number, and the digest that the wrapper states.
pub record IsAccepted (layout : List Entry) (key : Key) (wrapper manifest : List ℕ) (r : Record) : Type 0 where
  pub place : ℕ
  pub said : Manifest
  pub says : SaysWhole IsManifest place manifest said
  pub authentic : IsAuthentic wrapper manifest (key_bytes key)
  pub number : r.sequence ≡ said.sequence
  pub digest : (blocks : List (List ℕ)) × WrapperSays wrapper r.digest blocks
  pub components : HasEach layout said.components
  pub safe : Safe (invocation_tree said)
  pub narrow : width_number (invocation_tree said) ≤ widest

-- if the wrapper and the manifest of an envelope are accepted, the trimmed envelope is one that is installed
abbrev pub InstalledAnywhere : Type 0
InstalledAnywhere =
    (layout : List Entry) (key : Key) (file : List ℕ) (envelope : EnvelopeSays) (r : Record)
    → EnvelopeOf file envelope → IsAccepted layout key envelope.wrapper envelope.manifest r
    → IsInstalled layout key (trimmed envelope.wrapper envelope.manifest) r
