use Rattle.std.proofs.Common.{◌≡◌, ◌≤◌, ◌-◌, IsTrue, length, take}
use Rattle.suit_edge.specs.Flash.{Keeps}
use Rattle.suit_edge.specs.Ranges.{Outside, written}
use Rattle.suit_edge.proofs.client.keep_pieces.Given as goal

abbrev pub invariant-loop-done : goal.invariant-loop-done
invariant-loop-done g l = record {
  within : l.done ≤ length l.bytes;
  size : g.D.Disk.extent l.disk ≡ g.D.Disk.extent l.fn.disk;
  faults : g.D.Disk.faults l.disk ≡ g.D.Disk.faults l.fn.disk;
  written : IsTrue g.D.Disk.told → (g.D.Disk.flash l.disk).reads ≡ written (g.D.Disk.flash l.fn.disk).reads l.place (take l.done l.bytes);
  keeps : IsTrue g.D.Disk.told → Keeps (Outside l.place (length l.bytes)) (g.D.Disk.flash l.fn.disk) (g.D.Disk.flash l.disk);
}

abbrev pub decreases-loop-done : goal.decreases-loop-done
decreases-loop-done g l = length l.bytes - l.done
