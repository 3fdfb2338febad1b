use Rattle.std.proofs.Common.{◌≡◌, ◌≤◌, ◌+◌, ◌-◌, IsTrue, length, take}
use Rattle.suit_edge.specs.Flash.{Grows, Keeps, Passes}
use Rattle.suit_edge.specs.Ranges.{Outside}
use Rattle.flash_slots.specs.Contents.{IsEmptyInEach, IsEmptySlot, pieces_of}
use Rattle.step_machine.specs.Areas.{area_at}
use Rattle.step_machine.proofs.copying.put_pieces.Given as goal

abbrev pub invariant-loop-from : goal.invariant-loop-from
invariant-loop-from g l = record {
  within : l.from ≤ l.size;
  room : length l.room ≡ length l.fn.room;
  slot : l.writing.slot ≡ l.fn.writing.slot;
  written : l.writing.written ≡ l.from;
  size : g.D.Disk.extent l.disk ≡ g.D.Disk.extent l.fn.disk;
  faults : g.D.Disk.faults l.disk ≡ g.D.Disk.faults l.fn.disk;
  pieces : IsTrue g.D.Disk.told → pieces_of l.fn.writing.slot l.from (g.D.Disk.flash l.disk).reads ≡ take l.from (area_at l.source l.ram (g.D.Disk.flash l.fn.disk).reads);
  keeps : IsTrue g.D.Disk.told → Keeps (Outside l.fn.writing.slot.start (8 + l.fn.writing.slot.capacity)) (g.D.Disk.flash l.fn.disk) (g.D.Disk.flash l.disk);
  still_empty : IsTrue g.D.Disk.told → IsEmptyInEach l.fn.writing.slot (g.D.Disk.flash l.fn.disk) → Passes (g.D.Disk.flash l.fn.disk) (g.D.Disk.flash l.disk) (IsEmptySlot l.fn.writing.slot);
  grows : IsTrue g.D.Disk.told → Grows (g.D.Disk.flash l.fn.disk) (g.D.Disk.flash l.disk);
}

abbrev pub decreases-loop-from : goal.decreases-loop-from
decreases-loop-from g l = l.size - l.from
