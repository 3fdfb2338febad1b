-- Whether identifiers at two indices are equal.
use Rattle.std.proofs.Common.{◌≡◌, ℕ, zero, suc, ◌<◌, Bool, true, false, List, [], ◌∷◌, length, get_or, refl, sym, subst, ◌∙◌, arith}
use Rattle.std.specs.Prelude.{MatchBool}
use Rattle.suit_params.specs.Alike.{HaveOneId, HaveOtherIds}
use Rattle.suit_manifest.specs.ComponentsJudging.{same_id}
use Rattle.suit_manifest.proofs.AlikeSteps.{same_true, same_itself}

abbrev Ids : Type 0
Ids = List (List (List ℕ))

-- whatever is read past the end
inside : {A : Type 0} (xs : List A) (i : ℕ) (d e : A) → i < length xs → get_or xs i d ≡ get_or xs i e
inside [] i d e lt = absurd (omega (arith, lt))
inside (x ∷ xs) zero d e lt = refl
inside (x ∷ xs) (suc i) d e lt = inside xs i d e (omega (arith, lt))

pub alike_told : (ids : Ids) (one other : ℕ) (a b : List (List ℕ)) (t : Bool) → one < length ids → other < length ids → a ≡ get_or ids one [] → b ≡ get_or ids other [] → t ≡ same_id a b
    → MatchBool t (HaveOneId (λ id. id) ids one other) (HaveOtherIds (λ id. id) ids one other)
alike_told ids one other a b true one_in other_in a_is b_is test =
    λ d. inside ids one d [] one_in ∙ sym a_is ∙ same_true a b (sym test) ∙ b_is ∙ sym (inside ids other d [] other_in)
alike_told ids one other a b false one_in other_in a_is b_is test =
    λ d same. differ (a_is ∙ sym (inside ids one d [] one_in) ∙ same ∙ inside ids other d [] other_in ∙ sym b_is)
  where
    differ : a ≡ b → ⊥
    differ both = let never : false ≡ true = test ∙ subst (λ (id : List (List ℕ)). same_id a id ≡ true) both (same_itself a) in absurd cc
