use Rattle.std.proofs.Common.{◌≡◌, ◌≤◌, ◌-◌, IsTrue}
use Rattle.suit_edge.specs.Flash.{Grows, IsSame}
use Rattle.suit_edge.proofs.file_launcher.copy_range.Given as goal

abbrev pub invariant-loop-done : goal.invariant-loop-done
invariant-loop-done g l = record {
  within : l.done ≤ l.length;
  size : g.D.Disk.extent l.disk ≡ g.D.Disk.extent l.fn.disk;
  faults : g.D.Disk.faults l.disk ≡ g.D.Disk.faults l.fn.disk;
  same : IsTrue g.D.Disk.told → IsSame (g.D.Disk.flash l.fn.disk) (g.D.Disk.flash l.disk);
  grows : IsTrue g.D.Disk.told → Grows (g.D.Disk.flash l.fn.disk) (g.D.Disk.flash l.disk);
}

abbrev pub decreases-loop-done : goal.decreases-loop-done
decreases-loop-done g l = l.length - l.done
