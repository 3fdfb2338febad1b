-- The outcomes that are left, and those before them, where one more is taken or put behind.
use Rattle.std.proofs.Common.{◌≡◌, ◌≤◌, ◌+◌, ℕ, zero, suc, Bool, List, [], ◌∷◌, ◌++◌, Some, None, length, take, drop, refl, ap, subst, arith}
use Rattle.std.specs.Prelude.{slice_get}

one_more : (n : ℕ) → suc n ≡ n + 1
one_more n = omega arith

took : (xs : List Bool) (n : ℕ) (x : Bool) → slice_get xs n ≡ Some x → (drop n xs ≡ x ∷ drop (suc n) xs) × (take (suc n) xs ≡ take n xs ++ x ∷ [])
took [] n x is = absurd cc
took (y ∷ xs) zero x is = let same : y ≡ x = cc in (ap (λ (z : Bool). z ∷ xs) same, ap (λ (z : Bool). z ∷ []) same)
took (y ∷ xs) (suc n) x is = let rest = took xs n x is in (rest.0, ap (λ (l : List Bool). y ∷ l) rest.1)

pub taken : (xs : List Bool) (n : ℕ) (x : Bool) → slice_get xs n ≡ Some x → (drop n xs ≡ x ∷ drop (n + 1) xs) × (take (n + 1) xs ≡ take n xs ++ x ∷ [])
taken xs n x is = subst (λ (k : ℕ). (drop n xs ≡ x ∷ drop k xs) × (take k xs ≡ take n xs ++ x ∷ [])) (one_more n) (took xs n x is)

pub none_left : (xs : List Bool) (n : ℕ) → slice_get xs n ≡ None → drop n xs ≡ []
none_left [] zero is = refl
none_left [] (suc n) is = refl
none_left (y ∷ xs) zero is = absurd cc
none_left (y ∷ xs) (suc n) is = none_left xs n is

-- where none is left, one is put behind all
puts : (xs : List Bool) (n : ℕ) (x : Bool) → n ≤ length xs → drop n xs ≡ [] → (drop (suc n) (xs ++ x ∷ []) ≡ []) × (take (suc n) (xs ++ x ∷ []) ≡ take n xs ++ x ∷ [])
puts [] zero x le none = (refl, refl)
puts [] (suc n) x le none = absurd (omega (arith, le))
puts (y ∷ xs) zero x le none = absurd cc
puts (y ∷ xs) (suc n) x le none = let rest = puts xs n x (omega (arith, le)) none in (rest.0, ap (λ (l : List Bool). y ∷ l) rest.1)

pub put : (xs : List Bool) (n : ℕ) (x : Bool) → n ≤ length xs → drop n xs ≡ [] → (drop (n + 1) (xs ++ x ∷ []) ≡ []) × (take (n + 1) (xs ++ x ∷ []) ≡ take n xs ++ x ∷ [])
put xs n x le none = subst (λ (k : ℕ). (drop k (xs ++ x ∷ []) ≡ []) × (take k (xs ++ x ∷ []) ≡ take n xs ++ x ∷ [])) (one_more n) (puts xs n x le none)

pub whole : (xs : List Bool) (n : ℕ) → n ≤ length xs → drop n xs ≡ [] → length (take n xs) ≡ length xs
whole [] zero le none = refl
whole [] (suc n) le none = refl
whole (y ∷ xs) zero le none = absurd cc
whole (y ∷ xs) (suc n) le none = ap suc (whole xs n (omega (arith, le)) none)

pub counted : (xs : List Bool) (n : ℕ) → n ≤ length xs → length (take n xs) ≡ n
counted [] zero le = refl
counted [] (suc n) le = absurd (omega (arith, le))
counted (y ∷ xs) zero le = refl
counted (y ∷ xs) (suc n) le = ap suc (counted xs n (omega (arith, le)))
