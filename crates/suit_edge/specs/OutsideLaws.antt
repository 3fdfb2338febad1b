-- Laws of lists of ranges.
use Rattle.std.proofs.Common.{◌⊎◌, inl, inr, ⊎_elim, ℕ, ◌+◌, List, [], ◌∷◌, ◌++◌, arith}
use Rattle.std.proofs.lemmas.Bool.{cases_lt}
use Rattle.suit_edge.specs.Ranges.{Range, Within, Outside, InSome, OutsideEach}

-- a place is in one of the ranges or outside each
pub in_or_outside : (ranges : List Range) (i : ℕ) → InSome ranges i ⊎ OutsideEach ranges i
in_or_outside [] i = inr tt
in_or_outside (r ∷ ranges) i = ⊎_elim
    (λ low. in_or_out ranges (inl low) (in_or_outside ranges i))
    (λ high. ⊎_elim (λ within. inl (inl (high, within))) (λ past. in_or_out ranges (inr past) (in_or_outside ranges i)) (cases_lt i (r.place + r.size)))
    (cases_lt i r.place)
  where
    in_or_out : (rest : List Range) → Outside r.place r.size i → InSome rest i ⊎ OutsideEach rest i
        → InSome (r ∷ rest) i ⊎ OutsideEach (r ∷ rest) i
    in_or_out rest out at = ⊎_elim (λ s. inl (inr s)) (λ o. inr (out, o)) at

-- it is not both
pub not_both : (ranges : List Range) (i : ℕ) → InSome ranges i → OutsideEach ranges i → ⊥
not_both [] i at out = at
not_both (r ∷ ranges) i at out = ⊎_elim (λ w. apart w out.0) (λ rest. not_both ranges i rest out.1) at
  where
    apart : Within r.place r.size i → Outside r.place r.size i → ⊥
    apart w o = ⊎_elim (λ low. omega (arith, w.0, low)) (λ high. omega (arith, w.1, high)) o

-- a place is outside two lists of ranges if and only if it is outside the two joined
pub outside_both : (some more : List Range) (i : ℕ) → OutsideEach some i → OutsideEach more i
    → OutsideEach (some ++ more) i
outside_both [] more i first second = second
outside_both (r ∷ some) more i first second = (first.0, outside_both some more i first.1 second)

pub outside_first : (some more : List Range) (i : ℕ) → OutsideEach (some ++ more) i
    → OutsideEach some i
outside_first [] more i out = tt
outside_first (r ∷ some) more i out = (out.0, outside_first some more i out.1)

pub outside_second : (some more : List Range) (i : ℕ) → OutsideEach (some ++ more) i
    → OutsideEach more i
outside_second [] more i out = out
outside_second (r ∷ some) more i out = outside_second some more i out.1
