use Rattle.std.proofs.Common.{◌≡◌, ◌↔◌, ◌<◌, ℕ, get_or, length}
use Rattle.flash_layout.specs.declared.layout.Entry.{Entry}
use Rattle.rollback_record.proofs.slot_counts.counts_in.Given as goal

abbrev pub invariant-loop-i : goal.invariant-loop-i
invariant-loop-i l = record {
  size : length l.slots ≡ 32;
  each : (k : ℕ) → k < l.i → (get_or l.slots k 0 ≡ 2) ↔ ((k < length l.layout) × ((d : Entry) → (get_or l.layout k d).slots ≡ 2));
}
