use Rattle.std.proofs.Common.{◌≡◌, ◌≤◌, ◌-◌, IsTrue, length, take, drop}
use Rattle.suit_edge.specs.Flash.{Grows, IsSame}
use Rattle.flash_view.proofs.standing.stands.Given as goal

-- so far, the disk holds the bytes
abbrev pub invariant-loop-done : goal.invariant-loop-done
invariant-loop-done g l = record {
  within : l.done ≤ length l.bytes;
  room : length l.room ≡ 64;
  size : g.D.Disk.extent l.disk ≡ g.D.Disk.extent l.fn.disk;
  faults : g.D.Disk.faults l.disk ≡ g.D.Disk.faults l.fn.disk;
  passed : IsTrue g.D.Disk.told → take l.done (drop l.place (g.D.Disk.flash l.fn.disk).reads) ≡ take l.done l.bytes;
  same : IsTrue g.D.Disk.told → IsSame (g.D.Disk.flash l.fn.disk) (g.D.Disk.flash l.disk);
  grows : IsTrue g.D.Disk.told → Grows (g.D.Disk.flash l.fn.disk) (g.D.Disk.flash l.disk);
}

abbrev pub decreases-loop-done : goal.decreases-loop-done
decreases-loop-done g l = length l.bytes - l.done
