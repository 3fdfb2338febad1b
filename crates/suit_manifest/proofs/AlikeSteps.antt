-- Whether two identifiers are equal.
use Rattle.std.proofs.Common.{◌≡◌, ℕ, Bool, true, false, List, [], ◌∷◌, refl, ap, ◌∙◌}
use Rattle.std.specs.Prelude.{◌&&◌}
use Rattle.std.specs.Str.{bytes_eq}
use Rattle.std.proofs.lemmas.Slice.Eq.{bytes_eq-Decides}
use Rattle.suit_manifest.specs.ComponentsJudging.{same_id}

pub same_true : (a b : List (List ℕ)) → same_id a b ≡ true → a ≡ b
same_true [] [] e = refl
same_true [] (y ∷ ys) e = absurd cc
same_true (x ∷ xs) [] e = absurd cc
same_true (x ∷ xs) (y ∷ ys) e = by_first (bytes_eq x y) (bytes_eq-Decides x y).0 (same_true xs ys) e
  where
    by_first : (b : Bool) → (b ≡ true → x ≡ y) → (same_id xs ys ≡ true → xs ≡ ys) → (b && same_id xs ys) ≡ true → (x ∷ xs) ≡ (y ∷ ys)
    by_first true same rest f = ap (λ (z : List ℕ). z ∷ xs) (same refl) ∙ ap (λ (l : List (List ℕ)). y ∷ l) (rest f)
    by_first false same rest f = absurd cc

pub same_itself : (a : List (List ℕ)) → same_id a a ≡ true
same_itself [] = refl
same_itself (x ∷ xs) = rw ((bytes_eq-Decides x x).1 refl, same_itself xs) refl
