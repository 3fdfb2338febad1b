use Rattle.std.proofs.Common.{◌≡◌, ℕ, ◌<◌, IsTrue, get_or}
use Rattle.std.specs.List.{All}
use Rattle.suit_edge.specs.Flash.{Grows, Keeps}
use Rattle.flash_layout.specs.declared.layout.Entry.{Entry}
use Rattle.flash_layout.specs.Layouts.{slot_starts}
use Rattle.flash_layout.specs.Formats.{IsClearAt, KeepsZeros, OutsideAllLengths}
use Rattle.flash_layout.proofs.formatting.empty_each.Given as goal

abbrev pub invariant-loop-entry : goal.invariant-loop-entry
invariant-loop-entry g l = record {
  size : g.D.Disk.extent l.disk ≡ g.D.Disk.extent l.fn.disk;
  faults : g.D.Disk.faults l.disk ≡ g.D.Disk.faults l.fn.disk;
  clear : IsTrue g.D.Disk.told → (k : ℕ) (d : Entry) → k < l.entry-index → All (IsClearAt (g.D.Disk.flash l.disk).reads) (slot_starts (get_or l.entries k d));
  zeros : IsTrue g.D.Disk.told → KeepsZeros (g.D.Disk.flash l.fn.disk).reads (g.D.Disk.flash l.disk).reads;
  keeps : IsTrue g.D.Disk.told → Keeps (OutsideAllLengths l.entries) (g.D.Disk.flash l.fn.disk) (g.D.Disk.flash l.disk);
  grows : IsTrue g.D.Disk.told → Grows (g.D.Disk.flash l.fn.disk) (g.D.Disk.flash l.disk);
}
