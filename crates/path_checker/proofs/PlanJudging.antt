-- The verdict on a whole procedure, from exploring it.
use Rattle.std.proofs.Common.{◌≡◌, ◌≤◌, ◌<◌, ℕ, zero, suc, List, [], ◌∷◌, ◌++◌, length, refl, sym, ap, ◌∙◌, subst, append_assoc, arith, inl, inr}
use Rattle.suit_commands.specs.Tree.{PlanTree}
use Rattle.suit_commands.specs.Capped.{capped}
use Rattle.suit_commands.specs.Numbers.{width_number}
use Rattle.path_model.specs.declared.identity.Identity.{Identity}
use Rattle.path_model.specs.declared.event.Event.{Event}
use Rattle.path_model.specs.declared.event.Event.TheVariants.{Failed}
use Rattle.path_model.specs.declared.bad_path.BadPath.{BadPath}
use Rattle.path_model.specs.Behaviour.{Directive}
use Rattle.path_model.specs.Path.{RunsPlan, first_state}
use Rattle.path_model.specs.Safe.{Safe}
use Rattle.path_model.specs.BadPaths.{IsBadPath}
use Rattle.path_model.proofs.Covering.{CoveredFrom-AllCovered, CoveredFrom-front}
use Rattle.path_checker.specs.declared.judge_plan.facts.Knowledge.{Knowledge}
use Rattle.path_checker.specs.Knowing.{nothing_known, Allows}
use Rattle.path_checker.specs.Choosing.{IsChosen}
use Rattle.path_checker.specs.Exploring.{Kept, Uncovered, Uncovers}
use Rattle.path_checker.specs.Invoking.{Covers}
use Rattle.path_checker.specs.Procedures.{first_kept}
use Rattle.path_checker.specs.declared.judge_plan.CheckVerdict.{CheckVerdict}
use Rattle.path_checker.specs.declared.judge_plan.CheckVerdict.TheVariants as verdicts
use Rattle.path_checker.specs.PlanVerdicts.{widest, Judges, Tells, JudgesPlan}

nothing-length : (count : ℕ) → length (nothing_known count) ≡ count
nothing-length zero = refl
nothing-length (suc count) = ap suc (nothing-length count)

nothing-allows : (count : ℕ) (ids : List Identity) → length ids ≡ count → Allows (nothing_known count) ids
nothing-allows zero [] e = tt
nothing-allows zero (i ∷ ids) e = absurd (omega (arith, e))
nothing-allows (suc count) [] e = absurd (omega (arith, e))
nothing-allows (suc count) (i ∷ ids) e = (record { vendor = tt; class = tt; device = tt; slot = tt }, nothing-allows count ids (omega (arith, e)))

allows-length : (facts : List Knowledge) (ids : List Identity) → Allows facts ids → length ids ≡ length facts
allows-length [] [] al = refl
allows-length [] (i ∷ ids) al = absurd al
allows-length (k ∷ facts) [] al = absurd al
allows-length (k ∷ facts) (i ∷ ids) al = ap suc (allows-length facts ids al.1)

pub is_safe : (plan : PlanTree) (from : List Kept) → from ≡ first_kept plan.count ∷ [] → Covers (RunsPlan plan) from → Safe plan
is_safe plan from is covers =
    let covered : Covers (RunsPlan plan) (first_kept plan.count ∷ []) = subst (Covers (RunsPlan plan)) is covers in
    record {
      covered = λ ids events are path.
          CoveredFrom-AllCovered events (CoveredFrom-front [] events path.rest (covered (first_kept plan.count) (inl refl) ids (nothing-allows plan.count ids are.count) (events ++ path.rest) path.ending path.run));
    }

pub is_bad_path : (plan : PlanTree) (from : List Kept) (facts : List Knowledge) (events : List Event) (bad : BadPath) → from ≡ first_kept plan.count ∷ [] → Uncovers (RunsPlan plan) from facts events → IsChosen facts bad.identities → bad.events ≡ events → IsBadPath plan bad
is_bad_path plan from facts events bad is u chosen same =
    at (subst (λ (y : List Kept). Uncovers (RunsPlan plan) y facts events) is u)
  where
    of_first : Uncovered (RunsPlan plan) (first_kept plan.count) facts events → IsBadPath plan bad
    of_first v =
        let ends : bad.events ≡ v.since ++ v.last ∷ [] = same ∙ v.parts in
        let whole : v.since ++ v.last ∷ Failed v.place ∷ [] ≡ bad.events ++ Failed v.place ∷ [] = sym (ap (λ (x : List Event). x ++ Failed v.place ∷ []) ends ∙ append_assoc v.since (v.last ∷ []) (Failed v.place ∷ [])) in
        record {
          identities = record { count = allows-length facts bad.identities chosen.allowed ∙ v.count ∙ nothing-length plan.count; each = chosen.bounds };
          path = record {
            rest = Failed v.place ∷ [];
            ending = Directive v.place;
            run = subst (λ (x : List Event). RunsPlan plan bad.identities first_state x (Directive v.place)) whole (v.path bad.identities chosen.allowed).1;
          };
          ends = record { before = v.since; last = v.last; is = ends; covered = CoveredFrom-AllCovered v.since v.covered; uncovered = v.uncovered };
        }

    at : Uncovers (RunsPlan plan) (first_kept plan.count ∷ []) facts events → IsBadPath plan bad
    at (k, inl e, v) = of_first (subst (λ (x : Kept). Uncovered (RunsPlan plan) x facts events) (sym e) v)
    at (k, inr n, v) = absurd n

-- the verdict on an uncovered invoke
pub told_judges : (plan : PlanTree) (from : List Kept) (k : Kept) (verdict : CheckVerdict) → from ≡ first_kept plan.count ∷ [] → Uncovers (RunsPlan plan) from k.facts k.events → Tells k verdict → Judges plan verdict
told_judges plan from k verdicts.Safe is u tells = absurd tells
told_judges plan from k (verdicts.Unsafe bad) is u tells = is_bad_path plan from k.facts k.events bad is u tells.0 tells.1
told_judges plan from k (verdicts.TooWide width) is u tells = absurd tells
told_judges plan from k verdicts.NoMemory is u tells = tt

-- ---- widths

pub too_wide : (w n : ℕ) → w ≡ capped n → widest < w → widest < n
unfolding capped
too_wide w n is h = omega (arith, is, h)

not_too_wide : (w n : ℕ) → w ≡ capped n → w ≤ widest → n ≤ widest
unfolding capped
not_too_wide w n is h = omega (arith, is, h)

pub judges_plan : (plan : PlanTree) (verdict : CheckVerdict) (w : ℕ) → w ≡ capped (width_number plan) → w ≤ widest → Judges plan verdict → JudgesPlan plan verdict
judges_plan plan verdicts.Safe w is le judged = (not_too_wide w (width_number plan) is le, judged)
judges_plan plan (verdicts.Unsafe bad) w is le judged = (not_too_wide w (width_number plan) is le, judged)
judges_plan plan (verdicts.TooWide width) w is le judged = absurd judged
judges_plan plan verdicts.NoMemory w is le judged = not_too_wide w (width_number plan) is le
