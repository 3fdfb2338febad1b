-- Reading a bank that holds an installed envelope.
use Rattle.std.proofs.Common.{⊎_elim, ℕ, List, [], sym, ◌∙◌}
use Rattle.std.specs.List.{AllByRecursion}
use Rattle.det_cbor.specs.DataItem.{IsByte}
use Rattle.suit_envelope.specs.Envelopes.{EnvelopeSays}
use Rattle.suit_envelope.specs.EnvelopeLaws.{EnvelopeLaws}
use Rattle.suit_envelope.specs.Trimmed.{trimmed_says}
use Rattle.suit_manifest.specs.ManifestLaws.{ManifestLaws}
use Rattle.flash_layout.specs.declared.key.Key.{Key}
use Rattle.flash_layout.specs.declared.layout.Entry.{Entry}
use Rattle.flash_layout.specs.declared.slot.Record.{Record}
use Rattle.rollback_record.specs.InstalledLaws.{AreReadAsInstalled}
use Rattle.rollback_record.specs.SoundFlash.{IsInstalled}

module _ (envelopes : EnvelopeLaws) (manifests : ManifestLaws) (layout : List Entry) (key : Key) (bytes : List ℕ) (r : Record) (is : IsInstalled layout key bytes r) where
  abbrev parts : EnvelopeSays
  parts = trimmed_says is.wrapper is.manifest

  strings : AllByRecursion IsByte is.manifest
  strings = (envelopes.strings bytes parts is.envelope).manifest.1

  pub installed : AreReadAsInstalled layout key bytes r is
  installed = record {
    envelope = λ said says. ⊎_elim (λ one. one.only said says ∙ sym (one.only parts is.envelope)) (λ none. absurd (none.empty said says)) (envelopes.whole 0 bytes is.are_bytes);
    refused = λ e refuses. ⊎_elim (λ one. one.sound e refuses) (λ none. none.empty parts is.envelope) (envelopes.whole 0 bytes is.are_bytes);
    manifest = λ m says. ⊎_elim (λ one. one.only m says ∙ sym (one.only is.said is.says)) (λ none. absurd (none.empty m says)) (manifests.whole parts.manifest_place is.manifest strings);
    manifest_refused = λ e refuses. ⊎_elim (λ one. one.sound e refuses) (λ none. none.empty is.said is.says) (manifests.whole parts.manifest_place is.manifest strings);
    known = λ component lacks. let place = is.components component [] lacks.inside in lacks.lacks [] place.0 place.1;
  }
