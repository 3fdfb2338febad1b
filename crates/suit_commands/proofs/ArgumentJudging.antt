-- Judging a reporting policy and judging an override agree with the grammar and the refusals.
use Rattle.std.proofs.Common.{◌≡◌, ℕ, ◌≤◌, Bool, true, false, ltb, List, Result, Ok, Err, refl, ap, subst, inl, inr, arith}
use Rattle.std.proofs.lemmas.Bool.{lt-ltb, ltb-true, ltb-false}
use Rattle.det_cbor.specs.DataItem.{DataItem, UnsignedInteger, NegativeInteger, MapOf, IsValidWithin}
use Rattle.det_cbor.specs.ResultLaws.{chosen, same_ok, same_err}
use Rattle.suit_params.specs.declared.param.Param.{Param}
use Rattle.suit_params.specs.declared.refusal.Refusal.{Refusal}
use Rattle.suit_params.specs.declared.refusal.Why.TheVariants.{BadArgument}
use Rattle.suit_params.specs.Refusing.{refused}
use Rattle.suit_params.specs.Params.{IsParams, RefusesParams, IsMap}
use Rattle.suit_params.specs.ParamJudging.{judge_params}
use Rattle.suit_params.proofs.ParamJudging.{params_judge}
use Rattle.suit_commands.specs.SequenceFaults.{IsPolicy, RefusesArgument, NoParams, BadParams}
use Rattle.suit_commands.specs.SequenceJudging.{judge_report, judge_override}

-- ---- reporting policies

pub report_ok : (place : ℕ) (x : DataItem) (n : ℕ) → judge_report place x ≡ Ok n → (x ≡ UnsignedInteger n) × (n ≤ 15)
report_ok place (UnsignedInteger m) n e =
    elim (chosen {A = Result ℕ Refusal} (ltb m 16) (Ok m) (Err (refused place BadArgument)) (Ok n) e) [
      | inl (is, f) ↦ let same : m ≡ n = same_ok m n f in (ap UnsignedInteger same, omega (arith, ltb-true m 16 is, same))
      | inr (other, f) ↦ absurd cc
    ]
report_ok place _ n e = absurd cc

pub report_again : (place n : ℕ) → n ≤ 15 → judge_report place (UnsignedInteger n) ≡ Ok n
report_again place n le = let small : ltb n 16 ≡ true = lt-ltb n 16 (omega arith) in rw small refl

pub report_err : (place : ℕ) (x : DataItem) (r : Refusal) → judge_report place x ≡ Err r → (IsPolicy x → ⊥) × (refused place BadArgument ≡ r)
report_err place (UnsignedInteger n) r e =
    elim (chosen {A = Result ℕ Refusal} (ltb n 16) (Ok n) (Err (refused place BadArgument)) (Err r) e) [
      | inl (is, f) ↦ absurd cc
      | inr (other, f) ↦ (λ le. absurd (omega (arith, ltb-false n 16 other, le)), same_err _ r f)
    ]
report_err place (NegativeInteger n) r e = (λ h. h, same_err _ r e)
report_err place x r e = (λ h. h, same_err _ r e)

not_small : (n : ℕ) → (n ≤ 15 → ⊥) → ltb n 16 ≡ false
not_small n large = by_test (ltb n 16) refl
  where
    by_test : (t : Bool) → ltb n 16 ≡ t → t ≡ false
    by_test true is = absurd (large (omega (arith, ltb-true n 16 is)))
    by_test false is = refl

pub report_other : (place : ℕ) (x : DataItem) → (IsPolicy x → ⊥) → judge_report place x ≡ Err (refused place BadArgument)
report_other place (UnsignedInteger n) other = rw (not_small n other) refl
report_other place _ other = refl

-- ---- overrides

pub override_ok : (count deep place : ℕ) (x : DataItem) (list : List Param) → IsValidWithin deep x → judge_override count place x ≡ Ok list → IsParams count place x list
override_ok count deep place (MapOf pairs) list valid e = (params_judge count).ok deep place (MapOf pairs) list valid e
override_ok count deep place _ list valid e = absurd cc

pub override_again : (count place : ℕ) (x : DataItem) (list : List Param) → IsParams count place x list → judge_override count place x ≡ Ok list
override_again count place x list said = by_map x ((params_judge count).again place x list said)
  where
    by_map : (x : DataItem) → judge_params count place x ≡ Ok list → judge_override count place x ≡ Ok list
    by_map (MapOf pairs) e = e
    by_map _ e = absurd cc

pub override_err : (shared : Bool) (count levels deep place : ℕ) (x : DataItem) (r : Refusal) → IsValidWithin deep x → judge_override count place x ≡ Err r → RefusesArgument shared count levels place 20 x r
override_err shared count levels deep place (MapOf pairs) r valid e = BadParams levels place (MapOf pairs) r tt ((params_judge count).err deep place (MapOf pairs) r valid e)
override_err shared count levels deep place x r valid e = subst (RefusesArgument shared count levels place 20 x) (same_err _ r e) (NoParams levels place x (λ h. h))

pub override_other : (count place : ℕ) (x : DataItem) → (IsMap x → ⊥) → judge_override count place x ≡ Err (refused place BadArgument)
override_other count place (MapOf pairs) other = absurd (other tt)
override_other count place _ other = refl

pub override_refused : (count place : ℕ) (x : DataItem) (r : Refusal) → IsMap x → RefusesParams count place x r → judge_override count place x ≡ Err r
override_refused count place x r map bad = by_map x map ((params_judge count).refuses place x r bad)
  where
    by_map : (x : DataItem) → IsMap x → judge_params count place x ≡ Err r → judge_override count place x ≡ Err r
    by_map (MapOf pairs) map e = e
    by_map _ map e = absurd map
