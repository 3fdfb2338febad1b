use Rattle.std.proofs.Common.{ℕ, ◌<◌}
use Rattle.flash_layout.specs.Overlaps.{SharesNone}
use Rattle.flash_layout.proofs.first_faults.first_overlap.Given as goal

abbrev pub invariant-loop-first : goal.invariant-loop-first
invariant-loop-first l = (k : ℕ) → k < l.first → SharesNone l.entries k
