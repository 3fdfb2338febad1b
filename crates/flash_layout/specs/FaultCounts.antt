-- The count of a flash's faults, given the answer of a call.
use Rattle.std.specs.Prelude.{◌≡◌, ℕ, Result, MatchResult}
use Rattle.suit_edge.specs.Faults.{Faulted}
use Rattle.flash_layout.specs.declared.slot.FlashFault.{FlashFault}

-- it rises for a fault, and stays otherwise
abbrev pub ResultCounts : {A : Type 0} → Result A FlashFault → ℕ → ℕ → Type 0
ResultCounts result before now = MatchResult result (λ _. now ≡ before) (λ _. Faulted before now)
