-- The four widths of the argument after a first byte.
use Rattle.std.proofs.Common.{◌≡◌, ℕ, ◌+◌, ◌^◌, ◌<◌, ◌≤◌, List, length, refl, subst, arith, inl, inr}
use Rattle.std.specs.Int.{byte_len}
use Rattle.std.proofs.lemmas.Bool.{cases_lt}
use Rattle.det_cbor.specs.Heads.{head_bytes}
use Rattle.det_cbor.specs.HeadReading.{number_at, argument_at}
use Rattle.det_cbor.specs.Faults.{width_of}
use Rattle.det_cbor.specs.ArgumentLaws.{IsWide, wide8, wide16, wide32, wide64, head_small, head_8, head_16, head_32, head_64}

-- the lower five bits that go with a width, and the least number that no shorter head spells
pub record IsCode (low least : ℕ) : Type 0 where
  pub above : 24 ≤ low
  pub below : low ≤ 27
  pub wide : IsWide (width_of low) (256 ^ byte_len (width_of low))
  pub shorter : (major n : ℕ) → n < least → length (head_bytes major n) < 1 + byte_len (width_of low)
  pub longer : (major n : ℕ) → n < 256 ^ byte_len (width_of low) → length (head_bytes major n) < 1 + byte_len (width_of low) → n < least

-- a number below a limit has a head as short as that of the next smaller width
below_24 : (major n : ℕ) → n < 24 → length (head_bytes major n) ≡ 1
below_24 major n lt = rw (head_small major n lt) refl

from_24 : (major n : ℕ) → 24 ≤ n → n < 2 ^ 8 → length (head_bytes major n) ≡ 2
from_24 major n ge lt = rw (head_8 major n ge lt) refl

from_8 : (major n : ℕ) → 2 ^ 8 ≤ n → n < 2 ^ 16 → length (head_bytes major n) ≡ 3
from_8 major n ge lt = rw (head_16 major n ge lt) refl

from_16 : (major n : ℕ) → 2 ^ 16 ≤ n → n < 2 ^ 32 → length (head_bytes major n) ≡ 5
from_16 major n ge lt = rw (head_32 major n ge lt) refl

from_32 : (major n : ℕ) → 2 ^ 32 ≤ n → n < 2 ^ 64 → length (head_bytes major n) ≡ 9
from_32 major n ge lt = rw (head_64 major n ge lt) refl

shorter_24 : (major n : ℕ) → n < 24 → length (head_bytes major n) < 2
shorter_24 major n lt = omega (arith, below_24 major n lt)

shorter_8 : (major n : ℕ) → n < 2 ^ 8 → length (head_bytes major n) < 3
shorter_8 major n lt =
    elim (cases_lt n 24) [
      | inl a ↦ omega (arith, below_24 major n a)
      | inr a ↦ omega (arith, from_24 major n a lt)
    ]

shorter_16 : (major n : ℕ) → n < 2 ^ 16 → length (head_bytes major n) < 5
shorter_16 major n lt =
    elim (cases_lt n (2 ^ 8)) [
      | inl a ↦ omega (arith, shorter_8 major n a)
      | inr a ↦ omega (arith, from_8 major n a lt)
    ]

shorter_32 : (major n : ℕ) → n < 2 ^ 32 → length (head_bytes major n) < 9
shorter_32 major n lt =
    elim (cases_lt n (2 ^ 16)) [
      | inl a ↦ omega (arith, shorter_16 major n a)
      | inr a ↦ omega (arith, from_16 major n a lt)
    ]

-- a number is below a limit if its head is shorter than every head from the limit on
short_below : (major n limit size : ℕ) → (limit ≤ n → length (head_bytes major n) ≡ size) → length (head_bytes major n) < size → n < limit
short_below major n limit size long short =
    elim (cases_lt n limit) [
      | inl a ↦ a
      | inr a ↦ absurd (omega (arith, long a))
    ]

longer_24 : (major n : ℕ) → n < 2 ^ 8 → length (head_bytes major n) < 2 → n < 24
longer_24 major n lt short = short_below major n 24 2 (λ a. from_24 major n a lt) short

longer_8 : (major n : ℕ) → n < 2 ^ 16 → length (head_bytes major n) < 3 → n < 2 ^ 8
longer_8 major n lt short = short_below major n (2 ^ 8) 3 (λ a. from_8 major n a lt) short

longer_16 : (major n : ℕ) → n < 2 ^ 32 → length (head_bytes major n) < 5 → n < 2 ^ 16
longer_16 major n lt short = short_below major n (2 ^ 16) 5 (λ a. from_16 major n a lt) short

longer_32 : (major n : ℕ) → n < 2 ^ 64 → length (head_bytes major n) < 9 → n < 2 ^ 32
longer_32 major n lt short = short_below major n (2 ^ 32) 9 (λ a. from_32 major n a lt) short

pub code_24 : IsCode 24 24
code_24 = record { above = omega arith; below = omega arith; wide = wide8; shorter = shorter_24; longer = longer_24 }

pub code_25 : IsCode 25 (2 ^ 8)
code_25 = record { above = omega arith; below = omega arith; wide = wide16; shorter = shorter_8; longer = longer_8 }

pub code_26 : IsCode 26 (2 ^ 16)
code_26 = record { above = omega arith; below = omega arith; wide = wide32; shorter = shorter_16; longer = longer_16 }

pub code_27 : IsCode 27 (2 ^ 32)
code_27 = record { above = omega arith; below = omega arith; wide = wide64; shorter = shorter_32; longer = longer_32 }

-- the argument of a width, as it is read
pub argument_code : (low : ℕ) (bytes : List ℕ) → 24 ≤ low → low ≤ 27 → (least : ℕ) × IsCode low least × (argument_at low bytes ≡ number_at (width_of low) least bytes)
unfolding argument_at
argument_code low bytes ge le =
    let P = λ (k : ℕ). (least : ℕ) × IsCode k least × (argument_at k bytes ≡ number_at (width_of k) least bytes) in
    elim (cases_lt low 25) [
      | inl a ↦ subst P (at_code 24 low (omega arith)) (24, code_24, refl)
      | inr a ↦ elim (cases_lt low 26) [
        | inl b ↦ subst P (at_code 25 low (omega arith)) (2 ^ 8, code_25, refl)
        | inr b ↦ elim (cases_lt low 27) [
          | inl c ↦ subst P (at_code 26 low (omega arith)) (2 ^ 16, code_26, refl)
          | inr c ↦ subst P (at_code 27 low (omega arith)) (2 ^ 32, code_27, refl)
        ]
      ]
    ]
  where
    at_code : (n low : ℕ) → n ≡ low → n ≡ low
    at_code n low e = e
