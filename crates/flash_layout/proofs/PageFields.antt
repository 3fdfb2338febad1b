-- The fields of a page, by place.
use Rattle.std.proofs.Common.{◌≡◌, ℕ, ◌-◌, ◌^◌, ◌<◌, List, ◌++◌, length, refl}
use Rattle.std.specs.List.{slice_range}
use Rattle.std.proofs.lemmas.Nat.{from_be_bytes-to_be_bytes_8}
use Rattle.std.proofs.lemmas.List.{take_at, drop_at}
use Rattle.flash_layout.specs.ConfigPage.{number_bytes}
use Rattle.flash_layout.specs.PageReading.{number_at}

pub field : (before mid after whole : List ℕ) (i j : ℕ) → whole ≡ before ++ (mid ++ after) → length before ≡ i → length mid ≡ j - i → slice_range whole i j ≡ mid
field before mid after whole i j is from to = rw (is, drop_at before (mid ++ after) i from) (take_at mid after (j - i) to)

pub number_read : (n : ℕ) → n < 2 ^ 64 → number_at (number_bytes n) ≡ n
unfolding number_at number_bytes
number_read n fits = from_be_bytes-to_be_bytes_8 n fits

pub number_long : (n : ℕ) → length (number_bytes n) ≡ 8
unfolding number_bytes
number_long n = refl
