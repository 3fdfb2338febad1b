use Rattle.std.proofs.Common.{◌≡◌, ◌<◌, ℕ, get_or}
use Rattle.suit_commands.specs.Bits.{HasBit}
use Rattle.update_proc.proofs.choosing.has_written.Given as goal

abbrev pub invariant-loop-k : goal.invariant-loop-k
invariant-loop-k l = (j : ℕ) → j < l.k → HasBit l.bits j → get_or l.places.layout_index j 0 ≡ l.index → ⊥
