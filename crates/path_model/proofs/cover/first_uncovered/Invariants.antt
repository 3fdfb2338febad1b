use Rattle.std.proofs.Common.{◌-◌, ◌<◌, ◌≡◌, ℕ, length}
use Rattle.path_model.specs.Safe.{Covered}
use Rattle.path_model.proofs.cover.first_uncovered.Given as goal

abbrev pub invariant-loop-index : goal.invariant-loop-index
invariant-loop-index l = record {
  same : l.events ≡ l.fn.events;
  covered : (i : ℕ) → i < l.index → Covered l.events i;
}

abbrev pub decreases-loop-index : goal.decreases-loop-index
decreases-loop-index l = length l.events - l.index
