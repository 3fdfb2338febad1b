use Rattle.std.proofs.Common.{◌≡◌, ◌≤◌, ◌-◌, IsTrue, length}
use Rattle.suit_edge.specs.Flash.{Grows, IsSame}
use Rattle.suit_params.specs.HasherState.{HasHashed}
use Rattle.flash_slots.specs.Contents.{pieces_of}
use Rattle.flash_slots.proofs.passing.digest_some.Given as goal

abbrev pub invariant-loop-from : goal.invariant-loop-from
invariant-loop-from g l = record {
  within : l.from ≤ l.size;
  room : length l.room ≡ length l.fn.room;
  size : g.D.Disk.extent l.disk ≡ g.D.Disk.extent l.fn.disk;
  faults : g.D.Disk.faults l.disk ≡ g.D.Disk.faults l.fn.disk;
  hashed : IsTrue g.D.Disk.told → HasHashed l.hasher l.fn.kind (pieces_of l.slot l.from (g.D.Disk.flash l.fn.disk).reads);
  same : IsTrue g.D.Disk.told → IsSame (g.D.Disk.flash l.fn.disk) (g.D.Disk.flash l.disk);
  grows : IsTrue g.D.Disk.told → Grows (g.D.Disk.flash l.fn.disk) (g.D.Disk.flash l.disk);
}

abbrev pub decreases-loop-from : goal.decreases-loop-from
decreases-loop-from g l = l.size - l.from
