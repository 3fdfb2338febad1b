-- When two slots are clear of each other.
use Rattle.std.specs.Prelude.{◌<◌, ◌≤◌, ◌+◌, ℕ}
use Rattle.flash_layout.specs.Layouts.{AreClear}

-- the byte i is in both ranges
abbrev pub IsShared : ℕ → ℕ → ℕ → ℕ → ℕ → Type 0
IsShared p m q n i = (p ≤ i) × (i < p + m) × (q ≤ i) × (i < q + n)

-- two ranges that are not empty are clear of each other if and only if they share no byte
pub record SlotLaws : Type 0 where
  pub clear : (p m q n i : ℕ) → AreClear p m q n → IsShared p m q n i → ⊥
  pub shared : (p m q n : ℕ) → 0 < m → 0 < n → (AreClear p m q n → ⊥) → (i : ℕ) × IsShared p m q n i
