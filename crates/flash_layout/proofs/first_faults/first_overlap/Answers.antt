use Rattle.std.proofs.Common.{ℕ, below_more}
use Rattle.flash_layout.specs.Overlaps.{SharesNone}
use Rattle.flash_layout.proofs.first_faults.first_overlap.Goals as goal

pub loop-first-preserved : goal.loop-first-preserved
loop-first-preserved c = below_more (λ (k : ℕ). SharesNone c.args.entries.now k) c.loop-first.first c.loop-first.invariant c.in_default.ensures
