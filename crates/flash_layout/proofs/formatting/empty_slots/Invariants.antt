use Rattle.std.proofs.Common.{◌≡◌, ℕ, ◌<◌, IsTrue, get_or}
use Rattle.suit_edge.specs.Flash.{Grows, Keeps}
use Rattle.flash_layout.specs.Formats.{IsClearAt, KeepsZeros, OutsideLengths}
use Rattle.flash_layout.proofs.formatting.empty_slots.Given as goal

abbrev pub invariant-loop-start : goal.invariant-loop-start
invariant-loop-start g l = record {
  size : g.D.Disk.extent l.disk ≡ g.D.Disk.extent l.fn.disk;
  faults : g.D.Disk.faults l.disk ≡ g.D.Disk.faults l.fn.disk;
  clear : IsTrue g.D.Disk.told → (k : ℕ) → k < l.start-index → IsClearAt (g.D.Disk.flash l.disk).reads (get_or l.starts k 0);
  zeros : IsTrue g.D.Disk.told → KeepsZeros (g.D.Disk.flash l.fn.disk).reads (g.D.Disk.flash l.disk).reads;
  keeps : IsTrue g.D.Disk.told → Keeps (OutsideLengths l.starts) (g.D.Disk.flash l.fn.disk) (g.D.Disk.flash l.disk);
  grows : IsTrue g.D.Disk.told → Grows (g.D.Disk.flash l.fn.disk) (g.D.Disk.flash l.disk);
}
