-- A fact learnt of one component is learnt of all.
use Rattle.std.proofs.Common.{◌≡◌, ◌<◌, ◌≤◌, ℕ, zero, suc, List, [], ◌∷◌, length, get_or, Option, Some, None, refl, inl, inr, sym, ap, ◌∙◌, subst, arith, length-set}
use Rattle.std.specs.Prelude.{◌↔◌, Bool, true, false, slice_get, slice_set}
use Rattle.path_model.specs.declared.identity.Identity.{Identity}
use Rattle.path_checker.specs.declared.judge_plan.facts.Own.{Own}
use Rattle.path_checker.specs.declared.judge_plan.facts.Own.TheVariants as owns
use Rattle.path_checker.specs.declared.judge_plan.facts.Knowledge.{Knowledge}
use Rattle.path_checker.specs.Knowing.{nothing, Allows, Learns}
use Rattle.path_checker.specs.Forking.{DecidesOne, NarrowsOne, Has, HasOne, HasNoneOf, TellsOne, learnt, excluded, learnt_at, Learnt, some_if}
use Rattle.path_checker.proofs.Telling.{decides_has, decides_has_not, narrows_learnt, narrows_excluded}

-- the identity of a component of which something is known
identity_at : (facts : List Knowledge) (c : ℕ) (d : Knowledge) (fact : Option Identity → Type 0) → c < length facts → DecidesOne (get_or facts c d) fact
    → (ids : List Identity) → Allows facts ids → fact (slice_get ids c)
identity_at [] c d fact lt decides ids al = absurd (omega arith)
identity_at (k ∷ facts) c d fact lt decides [] al = absurd al
identity_at (k ∷ facts) zero d fact lt decides (i ∷ ids) al = decides i al.0
identity_at (k ∷ facts) (suc c) d fact lt decides (i ∷ ids) al = identity_at facts c d fact (omega arith) decides ids al.1

pub decided_at : (facts : List Knowledge) (c : ℕ) (d known : Knowledge) (fact : Option Identity → Type 0) → c < length facts → known ≡ get_or facts c d → DecidesOne known fact
    → (ids : List Identity) → Allows facts ids → fact (slice_get ids c)
decided_at facts c d known fact lt is decides = identity_at facts c d fact lt (subst (λ (k : Knowledge). DecidesOne k fact) is decides)

-- ---- nothing is known past the last

pub past_last : (facts : List Knowledge) (c : ℕ) (own : Own) → length facts ≤ c → (ids : List Identity) → Allows facts ids → Has c own ids → ⊥
past_last [] c (owns.Vendor id) le [] al h = absurd cc
past_last [] c _ le [] al h = absurd cc
past_last [] c own le (i ∷ ids) al h = al
past_last (k ∷ facts) c own le [] al h = al
past_last (k ∷ facts) zero own le (i ∷ ids) al h = absurd (omega arith)
past_last (k ∷ facts) (suc c) own le (i ∷ ids) al h = past_last facts c own (omega arith) ids al.1 h

-- ---- one component's knowledge replaced

narrowed : (facts : List Knowledge) (c : ℕ) (d known : Knowledge) (fact : Option Identity → Type 0) → c < length facts → NarrowsOne (get_or facts c d) known fact
    → (ids : List Identity) → Allows (slice_set facts c known) ids ↔ (Allows facts ids × fact (slice_get ids c))
narrowed [] c d known fact lt narrows ids = absurd (omega arith)
narrowed (k ∷ facts) zero d known fact lt narrows [] = (λ h. absurd h, λ h. absurd h.0)
narrowed (k ∷ facts) (suc c) d known fact lt narrows [] = (λ h. absurd h, λ h. absurd h.0)
narrowed (k ∷ facts) zero d known fact lt narrows (i ∷ ids) =
    let one = narrows i in
    (λ h. let x = one.0 h.0 in ((x.0, h.1), x.1), λ h. (one.1 (h.0.0, h.1), h.0.1))
narrowed (k ∷ facts) (suc c) d known fact lt narrows (i ∷ ids) =
    let rest = narrowed facts c d known fact (omega arith) narrows ids in
    (λ h. let x = rest.0 h.1 in ((h.0, x.0), x.1), λ h. (h.0.0, rest.1 (h.0.1, h.1)))

pub learns_at : (facts learned : List Knowledge) (c : ℕ) (d known narrow : Knowledge) (fact : Option Identity → Type 0) → c < length facts → known ≡ get_or facts c d
    → learned ≡ slice_set facts c narrow → NarrowsOne known narrow fact → Learns facts learned (λ ids. fact (slice_get ids c))
learns_at facts learned c d known narrow fact lt is made narrows = record {
  count = ap (λ (fs : List Knowledge). length fs) made ∙ length-set facts c narrow;
  allows = λ ids. subst (λ (fs : List Knowledge). Allows fs ids ↔ (Allows facts ids × fact (slice_get ids c))) (sym made)
      (narrowed facts c d narrow fact lt (subst (λ (k : Knowledge). NarrowsOne k narrow fact) is narrows) ids);
}

-- ---- a component learns what is open of it

same_at : (facts : List Knowledge) (c : ℕ) (d e : Knowledge) → c < length facts → get_or facts c d ≡ get_or facts c e
same_at [] c d e lt = absurd (omega arith)
same_at (k ∷ facts) zero d e lt = refl
same_at (k ∷ facts) (suc c) d e lt = same_at facts c d e (omega arith)

pub learnt_open : (facts learned : List Knowledge) (c : ℕ) (d known : Knowledge) (own : Own) → c < length facts → known ≡ get_or facts c d → TellsOne known own None → learned ≡ learnt_at facts c own → Learnt facts c own (Some learned)
learnt_open facts learned c d known own lt is told made =
    let at : known ≡ get_or facts c nothing = is ∙ same_at facts c d nothing lt in
    let free : TellsOne (get_or facts c nothing) own None = subst (λ (k : Knowledge). TellsOne k own None) at told in
    let others : List Knowledge = slice_set facts c (excluded (get_or facts c nothing) own) in
    inr (
      others,
      (
        learns_at facts learned c nothing (get_or facts c nothing) (learnt (get_or facts c nothing) own) (HasOne own) lt refl made (narrows_learnt (get_or facts c nothing) own free),
        learns_at facts others c nothing (get_or facts c nothing) (excluded (get_or facts c nothing) own) (HasNoneOf own) lt refl refl (narrows_excluded (get_or facts c nothing) own free),
      ),
    )

pub learnt_told : (facts : List Knowledge) (c : ℕ) (d known : Knowledge) (own : Own) (has : Bool) → c < length facts → known ≡ get_or facts c d → TellsOne known own (Some has) → Learnt facts c own (some_if has facts)
learnt_told facts c d known own true lt is told = inl ((λ ids al. decided_at facts c d known (HasOne own) lt is (decides_has known own told) ids al), refl)
learnt_told facts c d known own false lt is told = λ ids al h. decided_at facts c d known (HasNoneOf own) lt is (decides_has_not known own told) ids al h
