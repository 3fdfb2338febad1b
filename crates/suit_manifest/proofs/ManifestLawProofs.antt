-- An item says exactly one manifest or has exactly one refusal, and keys are in order.
use Rattle.std.proofs.Common.{◌≡◌, ℕ, Result, Ok, Err, refl, sym, ◌∙◌, inl, inr, ◌⊎◌}
use Rattle.det_cbor.specs.DataItem.{DataItem, IsValid}
use Rattle.det_cbor.specs.ResultLaws.{same_ok, same_err, not_both}
use Rattle.suit_params.specs.declared.refusal.Refusal.{Refusal}
use Rattle.suit_commands.specs.SequenceLaws.{SequenceLaws}
use Rattle.suit_manifest.specs.declared.manifest.Manifest.{Manifest}
use Rattle.suit_manifest.specs.ManifestJudging.{judge_manifest}
use Rattle.suit_manifest.specs.ManifestLaws.{HasOneManifest, HasOneRefusal, ManifestLaws}
use Rattle.suit_manifest.specs.Manifests.{IsManifest, RefusesManifest}
use Rattle.suit_params.specs.OneWholeLaws.{one_answer}
use Rattle.suit_manifest.proofs.Grammatical.{grammatical}
use Rattle.suit_manifest.proofs.KeyNumbers.{ordered}
use Rattle.suit_manifest.proofs.ManifestMade.{manifest_made, manifest_placed, made_again, one_item}
use Rattle.suit_manifest.proofs.ManifestJudging.{manifest_judges}

one_reading : (place : ℕ) (x : DataItem) → IsValid x → HasOneManifest place x ⊎ HasOneRefusal place x
one_reading place x valid = by_answer (judge_manifest place x) refl
  where
    by_answer : (a : Result Manifest Refusal) → judge_manifest place x ≡ a → HasOneManifest place x ⊎ HasOneRefusal place x
    by_answer (Ok m) is = inl (record {
      one = m;
      holds = manifest_judges.ok 0 place x m valid is;
      only = λ n said. same_ok n m (sym (manifest_judges.again place x n said) ∙ is);
      sound = λ r bad. not_both (judge_manifest place x) m r is (manifest_judges.refuses place x r bad);
    })
    by_answer (Err r) is = inr (record {
      one = r;
      holds = manifest_judges.err 0 place x r valid is;
      only = λ s bad. same_err s r (sym (manifest_judges.refuses place x s bad) ∙ is);
      sound = λ m said. not_both (judge_manifest place x) m r (manifest_judges.again place x m said) is;
    })

pub manifest_laws : SequenceLaws → ManifestLaws
manifest_laws laws = record {
  one_reading = one_reading;
  grammatical = grammatical laws;
  whole = one_answer judge_manifest IsManifest RefusesManifest manifest_judges;
  made = manifest_made laws;
  places = manifest_placed laws;
  again = made_again laws;
  one_item = one_item laws;
  ordered = ordered;
}
