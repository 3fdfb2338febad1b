-- Values that stand in a list.
use Rattle.std.proofs.Common.{◌+◌, ◌<◌, ◌≤◌, ℕ, zero, suc, List, [], ◌∷◌, length, get_or, refl, sym, subst, arith, inl, inr, ⊎_elim}
use Rattle.std.proofs.Math.Nat.{eq-or-lt_of_le}
use Rattle.path_checker.specs.Exploring.{In}
use Rattle.path_checker.specs.Choosing.{IsLeastOutside}
use Rattle.path_checker.proofs.Outside.{IsApart, room_for}

pub in_at : {A : Type 0} (xs : List A) (i : ℕ) (d : A) → i < length xs → In (get_or xs i d) xs
in_at [] i d lt = absurd (omega arith)
in_at (x ∷ xs) zero d lt = inl refl
in_at (x ∷ xs) (suc i) d lt = inr (in_at xs i d (omega arith))

pub apart_out : {A : Type 0} (value : A) (xs : List A) → IsApart value xs → In value xs → ⊥
apart_out value [] all h = h
apart_out value (x ∷ xs) all (inl e) = all.0 e
apart_out value (x ∷ xs) all (inr h) = apart_out value xs all.1 h

-- ---- all numbers below one stand there, and so it is not larger than their count

pub record AllBelow (numbers : List ℕ) (number : ℕ) : Type 0 where
  pub all : (other : ℕ) → other < number → In other numbers
  pub bound : number ≤ length numbers

pub one_more : (n : ℕ) (xs : List ℕ) → AllBelow xs n → In n xs → AllBelow xs (n + 1)
one_more n xs below here =
    record { all = more; bound = room_for (n + 1) xs more }
  where
    more : (m : ℕ) → m < n + 1 → In m xs
    more m lt =
        let le : m ≤ n = omega (arith, lt) in
        ⊎_elim (λ e. subst (λ (k : ℕ). In k xs) (sym e) here) (λ l. below.all m l) (eq-or-lt_of_le le)

pub least_outside : (n : ℕ) (xs : List ℕ) → AllBelow xs n → (In n xs → ⊥) → IsLeastOutside xs n
least_outside n xs below out = record { outside = out; least = below.all }
