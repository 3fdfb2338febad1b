use Rattle.std.proofs.Common.{◌≡◌, ◌≤◌, ◌+◌, ◌-◌, IsTrue, length, take}
use Rattle.std.specs.List.{slice_range}
use Rattle.suit_edge.specs.Flash.{Grows, IsSame}
use Rattle.update_proc.proofs.bank_reading.has_bytes.Given as goal

abbrev pub invariant-loop-from : goal.invariant-loop-from
invariant-loop-from g l = record {
  within : l.from ≤ length l.bytes;
  passed : IsTrue g.D.Disk.told → slice_range (g.D.Disk.flash l.fn.disk).reads l.place (l.place + l.from) ≡ take l.from l.bytes;
  room : length l.room ≡ length l.fn.room;
  size : g.D.Disk.extent l.disk ≡ g.D.Disk.extent l.fn.disk;
  faults : g.D.Disk.faults l.disk ≡ g.D.Disk.faults l.fn.disk;
  same : IsTrue g.D.Disk.told → IsSame (g.D.Disk.flash l.fn.disk) (g.D.Disk.flash l.disk);
  grows : IsTrue g.D.Disk.told → Grows (g.D.Disk.flash l.fn.disk) (g.D.Disk.flash l.disk);
}

abbrev pub decreases-loop-from : goal.decreases-loop-from
decreases-loop-from g l = length l.bytes - l.from
