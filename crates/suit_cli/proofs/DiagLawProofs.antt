-- Where `diag FILE` stops.
use Rattle.std.proofs.Common.{◌≡◌, ◌∙◌, ℕ, List, Some, codes, inl, inr, refl, sym, ap, subst}
use Rattle.std.proofs.lemmas.List.{append_cancel_right}
use Rattle.std.specs.Prelude.{IsTrue}
use Rattle.cbor_diag.specs.Answers.{OneItem}
use Rattle.cbor_diag.specs.Notation.{notation_of}
use Rattle.det_cbor.specs.DataItem.{DataItem, Spells, spell}
use Rattle.suit_params.specs.Refusing.{FaultyItem, BytesAfter, RefusedItem}
use Rattle.suit_params.specs.declared.refusal.Refusal.{Refusal}
use Rattle.suit_envelope.specs.EnvelopeLaws.{EnvelopeLaws}
use Rattle.suit_envelope.specs.Said.{RefusesBytes}
use Rattle.suit_manifest.specs.ManifestLaws.{ManifestLaws}
use Rattle.suit_manifest.specs.MembersLaws.{MembersLaws}
use Rattle.suit_cli.specs.declared.reply.Outcome.TheVariants as outcomes
use Rattle.suit_cli.specs.declared.reply.Reply.{Reply}
use Rattle.suit_cli.specs.Outside.{Outside}
use Rattle.suit_cli.specs.Stages.{Says}
use Rattle.suit_cli.specs.Inputs.{longest_file, IsRead}
use Rattle.suit_cli.specs.Envelopes.{IsRefused}
use Rattle.suit_cli.specs.Diagnosing.{RefusesItem, IsNotated}
use Rattle.suit_cli.specs.Commands.{checks}
use Rattle.suit_cli.specs.CommandCauses.{AtFile, AtEnvelope, CheckSays, BeforeMembers, SameButPath}
use Rattle.suit_cli.specs.DiagLaws.{DiagLaws, DiagSays, BeforeItem, AtItem, AtNotation}
use Rattle.suit_cli.proofs.Diagnosing.{diag_says, one_diag, diag_asks, diag_faults}
use Rattle.suit_cli.proofs.Running.{Declining, declining, unread_declines, check_always}

-- ---- beside `check`

refuses_more : (bytes : List ℕ) (r : Refusal) → RefusesItem bytes r → RefusesBytes bytes r
refuses_more bytes r (FaultyItem at reason faulty) = FaultyItem at reason faulty
refuses_more bytes r (BytesAfter x rest valid is some) = BytesAfter x rest valid is some
refuses_more bytes r (RefusedItem x s spells never) = absurd never

as_envelope : (bytes : List ℕ) (r : Reply) → IsRefused (RefusesItem bytes) r → IsRefused (RefusesBytes bytes) r
as_envelope bytes r bad = record { refusal = bad.refusal; refuses = refuses_more bytes bad.refusal bad.refuses; says = bad.says }

module _ (envelopes : EnvelopeLaws) (manifests : ManifestLaws) (members : MembersLaws) (name : List ℕ) (b c : Outside) (r q : Reply) (told : IsTrue b.told) (answer : checks name b c (Says q)) where
  alike : Declining r.outcome → CheckSays name b r → q ≡ r
  alike declines says = of_same (check_always envelopes manifests members name b c told q answer r says) where
    of_same : SameButPath r q → q ≡ r
    of_same (inl same) = same
    of_same (inr unsafe) = absurd (subst Declining unsafe.0 declines)

  as_check : (r.outcome ≡ outcomes.Done → ⊥) → DiagSays name b r → q ≡ r
  as_check never (BeforeItem unread) = alike (unread_declines _ _ _ r unread) (BeforeMembers (AtFile unread))
  as_check never (AtItem bytes read all bad) = alike (declining r _ _ bad.says tt) (BeforeMembers (AtEnvelope bytes read all (as_envelope bytes r bad)))
  as_check never (AtNotation bytes x read item says) = absurd (never says.outcome_is)

-- ---- what a notation tells

record IsPrinted (name : List ℕ) (b : Outside) (r : Reply) : Type 0 where
  pub bytes : List ℕ
  pub item : DataItem
  pub read : IsRead longest_file name b bytes
  pub spells : Spells item bytes
  pub says : IsNotated item r

printed : (name : List ℕ) (b : Outside) (r : Reply) → r.outcome ≡ outcomes.Done → DiagSays name b r → IsPrinted name b r
printed name b r done (BeforeItem unread) = absurd (subst Declining done (unread_declines _ _ _ r unread))
printed name b r done (AtItem bytes read all bad) = absurd (subst Declining done (declining r _ _ bad.says tt))
printed name b r done (AtNotation bytes x read item says) = record { bytes = bytes; item = x; read = read; spells = item; says = says }

same_files : OneItem → (name other : List ℕ) (b d : Outside) (r : Reply) → IsTrue b.told → IsTrue d.told → IsPrinted name b r → IsPrinted other d r → b.files name ≡ d.files other
same_files law name other b d r told others_told first second =
    let text : notation_of second.item ≡ notation_of first.item = append_cancel_right _ _ (codes "\n") (sym second.says.text_is ∙ first.says.text_is) in
    let item : first.item ≡ second.item = law first.item second.item (notation_of first.item) (record { valid = first.spells.valid; is = refl }) (record { valid = second.spells.valid; is = sym text }) in
    let bytes : first.bytes ≡ second.bytes = first.spells.is ∙ ap spell item ∙ sym second.spells.is in
    first.read.holds told ∙ ap (λ (l : List ℕ). Some l) bytes ∙ sym (second.read.holds others_told)

pub diag_laws : OneItem → EnvelopeLaws → ManifestLaws → MembersLaws → DiagLaws
diag_laws law envelopes manifests members = record {
  only = λ name b a r answer. diag_says name b a r answer;
  always = λ name b a r q told says answer. one_diag name b told r q says (diag_says name b a q answer);
  as_check = λ name b a c r q told answer never checked. as_check envelopes manifests members name b c r q told checked never (diag_says name b a r answer);
  tells = λ name other b a d e r told others_told answer others done.
      same_files law name other b d r told others_told (printed name b r done (diag_says name b a r answer)) (printed other d r done (diag_says other d e r others));
  asks = λ name b a r answer. diag_asks name b a r answer;
  faults = λ name b a object answer. diag_faults name object b a answer;
}
