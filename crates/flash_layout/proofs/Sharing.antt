-- Ranges that share a byte.
use Rattle.std.proofs.Common.{◌<◌, ◌≤◌, ◌+◌, ◌⊎◌, inl, inr, ℕ, arith}
use Rattle.flash_layout.specs.Layouts.{AreClear}
use Rattle.flash_layout.specs.SlotLaws.{IsShared}

orders : (m n : ℕ) → (m ≤ n) ⊎ (n < m)
orders m n = grind arith

clear_by : (p m q n i : ℕ) → AreClear p m q n → IsShared p m q n i → (p ≤ q) ⊎ (q < p) → ⊥
clear_by p m q n i c s (inl h) = let ends = c.0 h in let below = s.1 in let from = s.2 in omega (arith, ends, below, from)
clear_by p m q n i c s (inr h) = let at_most : q ≤ p = omega (arith, h) in let ends = c.1 at_most in let below = s.3 in let from = s.0 in omega (arith, ends, below, from)

pub clear_none : (p m q n i : ℕ) → AreClear p m q n → IsShared p m q n i → ⊥
clear_none p m q n i c s = clear_by p m q n i c s (orders p q)

reaches : (p m q n : ℕ) → 0 < m → (AreClear p m q n → ⊥) → p ≤ q → (p + m ≤ q) ⊎ (q < p + m) → q < p + m
reaches p m q n some bad h (inl e) = absurd (bad (λ _. e, λ k. omega (arith, e, k, some)))
reaches p m q n some bad h (inr e) = e

shared_by : (p m q n : ℕ) → 0 < m → 0 < n → (AreClear p m q n → ⊥) → (p ≤ q) ⊎ (q < p) → (i : ℕ) × IsShared p m q n i
shared_by p m q n some_m some_n bad (inl h) = (q, (h, reaches p m q n some_m bad h (orders (p + m) q), omega arith, omega (arith, some_n)))
shared_by p m q n some_m some_n bad (inr h) =
    let at_most : q ≤ p = omega (arith, h) in
    (p, (omega arith, omega (arith, some_m), at_most, reaches q n p m some_n (λ c. bad (c.1, c.0)) at_most (orders (q + n) p)))

pub shared_some : (p m q n : ℕ) → 0 < m → 0 < n → (AreClear p m q n → ⊥) → (i : ℕ) × IsShared p m q n i
shared_some p m q n some_m some_n bad = shared_by p m q n some_m some_n bad (orders p q)
