-- The answer of a call that reads parameters, in terms of the grammar and the refusals.
use Rattle.std.proofs.Common.{◌≡◌, ℕ, List, Result, Ok, Err, refl, sym, ap, ◌∙◌, inl, inr}
use Rattle.std.specs.Prelude.{IfOk, IfErr}
use Rattle.det_cbor.specs.DataItem.{DataItem}
use Rattle.det_cbor.specs.HeadReading.{◌>>=◌}
use Rattle.det_cbor.specs.Position.{Position}
use Rattle.det_cbor.specs.ArgumentLaws.{IsBytes}
use Rattle.det_cbor.specs.ResultLaws.{ok_pair, same_err, not_both}
use Rattle.suit_params.specs.declared.param.Param.{Param}
use Rattle.suit_params.specs.declared.refusal.Refusal.{Refusal}
use Rattle.suit_params.specs.declared.refusal.Fault.{Fault}
use Rattle.suit_params.specs.declared.refusal.Fault.TheVariants.{Refused, NoMemory}
use Rattle.suit_params.specs.Answering.{Gives, IsFaultBy, IsReadAs, IsRefusedAs}
use Rattle.suit_params.specs.Refusing.{RefusesNext, TakesNext}
use Rattle.suit_params.specs.Params.{IsParams, RefusesParams}
use Rattle.suit_params.specs.ParamJudging.{judge_params}
use Rattle.suit_params.specs.ParamReading.{params_at, next_params}
use Rattle.suit_params.specs.Reading.{inside, item_from, next_judged}
use Rattle.suit_params.specs.JudgingLaws.{item_ok, next_ok, next_err, next_read, next_refused}
use Rattle.suit_params.proofs.ParamJudging.{params_judge}
use Rattle.suit_params.proofs.ParamReads.{params_read}

abbrev pub ReadsParams : ℕ → Position → Position → Result (List Param) Fault → Type 0
ReadsParams count p q r = Gives {Y = List Param × Position} (λ list. (list, q)) r (next_params count p)

abbrev alone : Position → DataItem × Position → Result (Position × Position) Refusal
alone p x = Ok (inside p x.0, x.1)

judged : (count : ℕ) (p : Position) → IsBytes p.left → next_params count p ≡ next_judged (judge_params count) p
judged count p fits = by_answer (item_from p) refl
  where
    as_params : Position × Position → Result (List Param × Position) Refusal
    as_params y = params_at count y.0 >>= λ ps. Ok (ps, y.1)

    by_judgement : DataItem × Position → Result (List Param × Position) Refusal
    by_judgement x = judge_params count p.place x.0 >>= λ ps. Ok (ps, x.1)

    by_answer : (a : Result (DataItem × Position) Refusal) → item_from p ≡ a → ((a >>= alone p) >>= as_params) ≡ (a >>= by_judgement)
    by_answer (Ok x) is = let valid = (item_ok p x.0 x.1 fits is).valid in rw (params_read count 0 p.place x.0 valid) refl
    by_answer (Err r) is = refl

pub ok_takes : (count : ℕ) (p q : Position) (r : Result (List Param) Fault) → IsBytes p.left → ReadsParams count p q r → IfOk r (λ list. TakesNext (IsParams count) p q list)
ok_takes count p q (Ok list) fits e = next_ok (judge_params count) (IsParams count) (RefusesParams count) (params_judge count) p list q fits (sym (judged count p fits) ∙ e)
ok_takes count p q (Err f) fits e = tt

pub err_refuses : (count : ℕ) (p q : Position) (r : Result (List Param) Fault) → IsBytes p.left → ReadsParams count p q r → IfErr r (IsFaultBy (RefusesNext (RefusesParams count) p))
err_refuses count p q (Ok list) fits e = tt
err_refuses count p q (Err (Refused s)) fits e = next_err (judge_params count) (IsParams count) (RefusesParams count) (params_judge count) p s fits (sym (judged count p fits) ∙ e)
err_refuses count p q (Err NoMemory) fits e = tt

-- the answer of the call, unless memory ran out
list_is : (count : ℕ) (p new : Position) (ps : List Param) → IsBytes p.left → (takes : TakesNext (IsParams count) p new ps) → (z : Position) × (next_params count p ≡ Ok (ps, z))
list_is count p new ps fits takes = (_, judged count p fits ∙ next_read (judge_params count) (IsParams count) (RefusesParams count) (params_judge count) p takes.item new.left ps takes.valid takes.taken.parts takes.says_so)

refusal_is : (count : ℕ) (p : Position) (s : Refusal) → IsBytes p.left → RefusesNext (RefusesParams count) p s → next_params count p ≡ Err s
refusal_is count p s fits refuses = judged count p fits ∙ next_refused (judge_params count) (IsParams count) (RefusesParams count) (params_judge count) p s refuses

pub every_list : (count : ℕ) (p q : Position) (r : Result (List Param) Fault) → IsBytes p.left → ReadsParams count p q r → (new : Position) (ps : List Param) → TakesNext (IsParams count) p new ps → IsReadAs ps r
every_list count p q (Ok list) fits e new ps takes = let is = list_is count p new ps fits takes in (ok_pair list ps q is.0 (sym e ∙ is.1)).0
every_list count p q (Err (Refused s)) fits e new ps takes = let is = list_is count p new ps fits takes in not_both (next_params count p) (ps, is.0) s is.1 e
every_list count p q (Err NoMemory) fits e new ps takes = refl

pub every_refusal : (count : ℕ) (p q : Position) (r : Result (List Param) Fault) → IsBytes p.left → ReadsParams count p q r → (s : Refusal) → RefusesNext (RefusesParams count) p s → IsRefusedAs s r
every_refusal count p q (Ok list) fits e s refuses = not_both (next_params count p) (list, q) s e (refusal_is count p s fits refuses)
every_refusal count p q (Err (Refused t)) fits e s refuses = inl (ap Refused (same_err t s (sym e ∙ refusal_is count p s fits refuses)))
every_refusal count p q (Err NoMemory) fits e s refuses = inr refl
