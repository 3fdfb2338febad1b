use Rattle.std.proofs.Common.{ℕ, ◌<◌}
use Rattle.flash_layout.specs.Placement.{HasPlace}
use Rattle.flash_layout.proofs.placing.find.Given as goal

abbrev pub invariant-loop-i : goal.invariant-loop-i
invariant-loop-i l = (k : ℕ) → k < l.i → HasPlace l.entries l.identifier k → ⊥
