use Rattle.std.proofs.Common.{◌≡◌, ◌↔◌, ◌<◌, ℕ, get_or, length}
use Rattle.rollback_record.specs.RecordPage.{HasSecondSlot}
use Rattle.rollback_record.proofs.slot_counts.counts_on.Given as goal

abbrev pub invariant-loop-i : goal.invariant-loop-i
invariant-loop-i l = record {
  size : length l.slots ≡ 32;
  each : (k : ℕ) → k < l.i → (get_or l.slots k 0 ≡ 2) ↔ HasSecondSlot l.config k;
}
