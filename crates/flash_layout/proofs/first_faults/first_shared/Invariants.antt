use Rattle.std.proofs.Common.{ℕ, ◌<◌, ◌≤◌}
use Rattle.flash_layout.specs.Overlaps.{ShareNone}
use Rattle.flash_layout.proofs.first_faults.first_shared.Given as goal

abbrev pub invariant-loop-j : goal.invariant-loop-j
invariant-loop-j l = (k : ℕ) → l.i ≤ k → k < l.j → ShareNone l.entries l.i k
