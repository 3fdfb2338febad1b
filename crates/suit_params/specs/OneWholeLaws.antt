-- If judging agrees with a form in both directions, any bytes have one answer.
use Rattle.std.proofs.Common.{◌≡◌, ◌⊎◌, ℕ, Result, Ok, Err, refl, sym, ◌∙◌, inl, inr}
use Rattle.det_cbor.specs.DataItem.{DataItem}
use Rattle.det_cbor.specs.ArgumentLaws.{bytes_of_all}
use Rattle.det_cbor.specs.ResultLaws.{same_ok, same_err, not_both}
use Rattle.suit_params.specs.declared.refusal.Refusal.{Refusal}
use Rattle.suit_params.specs.Refusing.{Refuses, Says}
use Rattle.suit_params.specs.Reading.{whole_judged}
use Rattle.suit_params.specs.OneWhole.{SaysJustOne, RefusesJustOnce, HasOneAnswer}
use Rattle.suit_params.specs.JudgingLaws.{Judges, whole_ok, whole_err, whole_read, whole_refused}

pub one_answer : {A : Type 0} (judge : ℕ → DataItem → Result A Refusal) (says : Says A)
    (form : Refuses)
    → Judges judge says form → HasOneAnswer says form
one_answer {A} judge says form law place bytes all = by_answer (whole_judged judge place bytes) refl
  where
    by_answer : (a : Result A Refusal) → whole_judged judge place bytes ≡ a
        → SaysJustOne says form place bytes ⊎ RefusesJustOnce says form place bytes
    by_answer (Ok a) is = inl (record {
      said = a;
      whole = whole_ok judge says form law place bytes a (bytes_of_all bytes all) is;
      only = λ b so. same_ok b a (sym (whole_read judge says form law place bytes b so) ∙ is);
      sound = λ r bad. not_both (whole_judged judge place bytes) a r is (whole_refused judge says form law place bytes r bad);
    })
    by_answer (Err r) is = inr (record {
      refusal = r;
      refuses = whole_err judge says form law place bytes r (bytes_of_all bytes all) is;
      only = λ s bad. same_err s r (sym (whole_refused judge says form law place bytes s bad) ∙ is);
      empty = λ a so. not_both (whole_judged judge place bytes) a r (whole_read judge says form law place bytes a so) is;
    })
