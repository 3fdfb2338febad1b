-- A count of erases.
use Rattle.std.specs.Prelude.{◌<◌, ◌≤◌, ◌^◌, ◌-◌, ℕ}

-- A count of erases rose. It saturates at the end of 64 bits, so it is said to rise only below that.
pub record Rises (before now : ℕ) : Type 0 where
  pub later : before ≤ now
  pub rose : now < 2 ^ 64 - 1 → before < now
