use Rattle.std.proofs.Common.{ℕ, ◌<◌}
use Rattle.flash_layout.specs.Overlaps.{LieInside}
use Rattle.flash_layout.proofs.first_faults.first_outside.Given as goal

abbrev pub invariant-loop-i : goal.invariant-loop-i
invariant-loop-i l = (k : ℕ) → k < l.i → LieInside l.size l.entries k
