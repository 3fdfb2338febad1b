use Rattle.std.proofs.Common.{ℕ, ◌<◌, get_or}
use Rattle.rollback_record.specs.RecordPage.{HasSlot}
use Rattle.rollback_record.proofs.page.are_active.Given as goal

abbrev pub invariant-loop-i : goal.invariant-loop-i
invariant-loop-i l = (k : ℕ) → k < l.i → HasSlot l.frame l.slots k (get_or l.active k 0)
