-- Maps of parameters say one list or have one refusal, and lists ascend.
use Rattle.std.proofs.Common.{◌≡◌, ℕ, ◌<◌, List, Some, None, Result, Ok, Err, refl, sym, ◌∙◌, arith, inl, inr, ◌⊎◌}
use Rattle.det_cbor.specs.DataItem.{DataItem, DataPairs, spell, IsAbove, IsValid, ArePairsWithin}
use Rattle.det_cbor.specs.ResultLaws.{same_ok, same_err, not_both}
use Rattle.suit_params.specs.declared.param.Param.{Param}
use Rattle.suit_params.specs.declared.param.ParamKey.{ParamKey}
use Rattle.suit_params.specs.declared.param.ParamKey.TheVariants as keys
use Rattle.suit_params.specs.declared.refusal.Refusal.{Refusal}
use Rattle.suit_params.specs.ParamKeys.{key_of, key_number, key_item}
use Rattle.suit_params.specs.Params.{SayParams, NoMore, ParamThen, IsParams, ParamMap, RefusesParams}
use Rattle.suit_params.specs.Digests.{IsDigest, RefusesDigest}
use Rattle.suit_params.specs.Judging.{judge_digest}
use Rattle.suit_params.specs.ParamJudging.{judge_params}
use Rattle.suit_params.specs.ParamLaws.{HasOneList, HasOneRefusal, AreAbove, AreAscending, ParamLaws}
use Rattle.suit_params.proofs.DigestAnswers.{digest_judges}
use Rattle.suit_params.specs.OneWholeLaws.{one_answer}
use Rattle.suit_params.proofs.ParamJudging.{params_judge}
use Rattle.suit_params.proofs.ParamMade.{said_key, made}
use Rattle.suit_params.proofs.ParamOrder.{number_above, key_small}
use Rattle.suit_params.proofs.ParamWritten.{written_says, written_valid}

one_reading : (count place : ℕ) (x : DataItem) → IsValid x → HasOneList count place x ⊎ HasOneRefusal count place x
one_reading count place x valid = by_answer (judge_params count place x) refl
  where
    by_answer : (a : Result (List Param) Refusal) → judge_params count place x ≡ a → HasOneList count place x ⊎ HasOneRefusal count place x
    by_answer (Ok ps) is = inl (record {
      list = ps;
      says = (params_judge count).ok 0 place x ps valid is;
      only = λ qs said. same_ok qs ps (sym ((params_judge count).again place x qs said) ∙ is);
      sound = λ r refuses. not_both (judge_params count place x) ps r is ((params_judge count).refuses place x r refuses);
    })
    by_answer (Err r) is = inr (record {
      refusal = r;
      refuses = (params_judge count).err 0 place x r valid is;
      only = λ s refuses. same_err s r (sym ((params_judge count).refuses place x s refuses) ∙ is);
      empty = λ ps said. not_both (judge_params count place x) ps r ((params_judge count).again place x ps said) is;
    })

-- ---- lists ascend

key_positive : (key : ParamKey) → 0 < key_number key
key_positive keys.Vendor = omega arith
key_positive _ = omega arith

above_key : (low key : ParamKey) → IsAbove (Some (spell (key_item low))) (spell (key_item key)) → key_number low < key_number key
above_key low key above = number_above (key_number low) (key_number key) (key_small low) (key_small key) above

pairs_above : (count levels place : ℕ) (low : ParamKey) (pairs : DataPairs) (ps : List Param) → ArePairsWithin levels (Some (spell (key_item low))) pairs → SayParams count place pairs ps → AreAbove (key_number low) ps
pairs_above count levels place low pairs ps valid (NoMore at) = tt
pairs_above count levels place low pairs ps valid (ParamThen at key value others p qs said rest) =
    let same : key_of p ≡ key = said_key count _ key value p said in
    rw same (above_key low key valid.1, pairs_above count levels _ key others qs valid.3 rest)

pairs_ascend : (count levels place : ℕ) (pairs : DataPairs) (ps : List Param) → ArePairsWithin levels None pairs → SayParams count place pairs ps → AreAscending ps
pairs_ascend count levels place pairs ps valid (NoMore at) = tt
pairs_ascend count levels place pairs ps valid (ParamThen at key value others p qs said rest) =
    let same : key_of p ≡ key = said_key count _ key value p said in
    rw same (key_positive key, pairs_above count levels _ key others qs valid.3 rest)

ascending : (count place : ℕ) (x : DataItem) (ps : List Param) → IsValid x → IsParams count place x ps → AreAscending ps
ascending count place x ps valid (ParamMap pairs qs said) = pairs_ascend count 1 _ pairs qs valid.2 said

pub param_laws : ParamLaws
param_laws = record { one_reading = one_reading; ascending = ascending; written = written_says; valid = written_valid; made = made; digests = one_answer judge_digest IsDigest RefusesDigest digest_judges; maps = λ count. one_answer (judge_params count) (IsParams count) (RefusesParams count) (params_judge count) }
