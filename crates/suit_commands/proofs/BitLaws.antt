-- Which bits a number has.
use Rattle.std.proofs.Common.{◌≡◌, ℕ, zero, suc, ◌+◌, ◌-◌, ◌^◌, ◌<◌, ◌≤◌, max, ◌⊎◌, inl, inr, List, [], ◌∷◌, refl, bit_or, arith}
use Rattle.std.specs.Int.{bit_at}
use Rattle.std.specs.List.{range_with_len}
use Rattle.std.proofs.lemmas.Bool.{cases_lt, cases_eq}
use Rattle.std.proofs.lemmas.Nat.Bits.{bit_at_or, bit_at-zero, bit_at-lt, bit_at-pow_same, bit_at-pow_other, bit_at_ones, bit_at_ones_above}
use Rattle.suit_commands.specs.declared.selection.Selection.{Selection}
use Rattle.suit_commands.specs.declared.selection.Selection.TheVariants.{One, All, Listed}
use Rattle.suit_commands.specs.Bits.{HasBit, listed_bits, selection_bits}
use Rattle.suit_commands.specs.Selections.{Among, selected_by}

pub no_bit : (c : ℕ) → HasBit 0 c → ⊥
no_bit c h = let e : bit_at 0 c ≡ 0 = bit_at-zero c in omega (arith, e, h)

pub or_left : (a b c : ℕ) → HasBit a c → HasBit (bit_or a b) c
or_left a b c h = let e : bit_at (bit_or a b) c ≡ max (bit_at a c) (bit_at b c) = bit_at_or a b c in let s : bit_at b c < 2 = bit_at-lt b c in omega (arith, e, s, h)

pub or_right : (a b c : ℕ) → HasBit b c → HasBit (bit_or a b) c
or_right a b c h = let e : bit_at (bit_or a b) c ≡ max (bit_at a c) (bit_at b c) = bit_at_or a b c in let s : bit_at a c < 2 = bit_at-lt a c in omega (arith, e, s, h)

pub or_cases : (a b c : ℕ) → HasBit (bit_or a b) c → HasBit a c ⊎ HasBit b c
or_cases a b c h = by_bit (bit_at a c) refl
  where
    by_bit : (n : ℕ) → bit_at a c ≡ n → HasBit a c ⊎ HasBit b c
    by_bit zero is = inr (let e : bit_at (bit_or a b) c ≡ max (bit_at a c) (bit_at b c) = bit_at_or a b c in omega (arith, e, h, is))
    by_bit (suc n) is = inl (let s : bit_at a c < 2 = bit_at-lt a c in omega (arith, s, is))

pub one_bit : (i c : ℕ) → c ≡ i → HasBit (2 ^ i) c
one_bit i c e = rw e (bit_at-pow_same i)

pub one_bit_is : (i c : ℕ) → HasBit (2 ^ i) c → c ≡ i
one_bit_is i c h = elim (cases_eq c i) [ inl e ↦ e | inr n ↦ absurd (let z : bit_at (2 ^ i) c ≡ 0 = bit_at-pow_other i c n in omega (arith, z, h)) ]

-- ---- selections

pub listed_to : (is : List ℕ) (bits c : ℕ) → HasBit bits c ⊎ Among c is → HasBit (listed_bits is bits) c
listed_to [] bits c (inl h) = h
listed_to [] bits c (inr h) = absurd h
listed_to (i ∷ is) bits c (inl h) = listed_to is (bit_or bits (2 ^ i)) c (inl (or_left bits (2 ^ i) c h))
listed_to (i ∷ is) bits c (inr (inl e)) = listed_to is (bit_or bits (2 ^ i)) c (inl (or_right bits (2 ^ i) c (one_bit i c e)))
listed_to (i ∷ is) bits c (inr (inr h)) = listed_to is (bit_or bits (2 ^ i)) c (inr h)

pub listed_from : (is : List ℕ) (bits c : ℕ) → HasBit (listed_bits is bits) c → HasBit bits c ⊎ Among c is
listed_from [] bits c h = inl h
listed_from (i ∷ is) bits c h = elim (listed_from is (bit_or bits (2 ^ i)) c h) [
  | inl w ↦ elim (or_cases bits (2 ^ i) c w) [ inl v ↦ inl v | inr v ↦ inr (inl (one_bit_is i c v)) ]
  | inr w ↦ inr (inr w)
]

-- the components from one on
range_to : (n a c : ℕ) → a ≤ c → c < a + n → Among c (range_with_len a n)
range_to zero a c low high = absurd (omega arith)
range_to (suc n) a c low high = elim (cases_eq c a) [ inl e ↦ inl e | inr e ↦ inr (range_to n (a + 1) c (omega (arith, e)) (omega arith)) ]

pub range_from : (n a c : ℕ) → Among c (range_with_len a n) → (a ≤ c) × (c < a + n)
range_from zero a c h = absurd h
range_from (suc n) a c (inl e) = (omega arith, omega arith)
range_from (suc n) a c (inr h) = let r = range_from n (a + 1) c h in (omega (arith, r.0), omega (arith, r.1))

pub selection_to : (selection : Selection) (count c : ℕ) → Among c (selected_by selection count) → HasBit (selection_bits selection count) c
selection_to (One component) count c (inl e) = one_bit component c e
selection_to (One component) count c (inr h) = absurd h
selection_to All count c h = bit_at_ones count c (let r = range_from count 0 c h in omega (arith, r.1))
selection_to (Listed components) count c h = listed_to components 0 c (inr h)

pub selection_from : (selection : Selection) (count c : ℕ) → HasBit (selection_bits selection count) c → Among c (selected_by selection count)
selection_from (One component) count c h = inl (one_bit_is component c h)
selection_from All count c h = elim (cases_lt c count) [
  | inl lt ↦ range_to count 0 c (omega arith) (omega (arith, lt))
  | inr ge ↦ absurd (let z : bit_at (2 ^ count - 1) c ≡ 0 = bit_at_ones_above count c ge in omega (arith, z, h))
]
selection_from (Listed components) count c h = elim (listed_from components 0 c h) [ inl w ↦ absurd (no_bit c w) | inr w ↦ w ]
