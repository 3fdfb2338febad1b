use Rattle.std.proofs.Common.{ℕ, ◌<◌}
use Rattle.flash_layout.specs.Overlaps.{LieClear}
use Rattle.flash_layout.proofs.first_faults.first_over.Given as goal

abbrev pub invariant-loop-i : goal.invariant-loop-i
invariant-loop-i l = (k : ℕ) → k < l.i → LieClear l.frame l.entries k
