-- Numbers that saturate at 64 bits.
use Rattle.std.specs.Prelude.{ℕ, ◌-◌, ◌^◌, min}

-- the number, or the largest one of 64 bits if it is larger
unfoldable pub capped : ℕ → ℕ
capped n = min n (2 ^ 64 - 1)
