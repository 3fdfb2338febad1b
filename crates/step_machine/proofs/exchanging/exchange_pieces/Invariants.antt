use Rattle.std.proofs.Common.{◌≡◌, ◌≤◌, ◌-◌, ◌++◌, IsTrue, length, take, drop}
use Rattle.suit_edge.specs.Flash.{Grows, Keeps}
use Rattle.step_machine.specs.Areas.{area_at, size_at}
use Rattle.step_machine.specs.Copying.{IsRamButBoth, OutsideRooms}
use Rattle.step_machine.proofs.exchanging.exchange_pieces.Given as goal

abbrev pub invariant-loop-from : goal.invariant-loop-from
invariant-loop-from g l = record {
  within : l.from ≤ l.size;
  room : length l.room ≡ length l.fn.room;
  spare : length l.spare ≡ length l.fn.spare;
  long : size_at l.one l.ram ≡ size_at l.one l.fn.ram;
  other_long : size_at l.other l.ram ≡ size_at l.other l.fn.ram;
  ram : IsRamButBoth l.one l.other l.fn.ram l.ram;
  size : g.D.Disk.extent l.disk ≡ g.D.Disk.extent l.fn.disk;
  faults : g.D.Disk.faults l.disk ≡ g.D.Disk.faults l.fn.disk;
  one : IsTrue g.D.Disk.told → area_at l.one l.ram (g.D.Disk.flash l.disk).reads
      ≡ take l.from (area_at l.other l.fn.ram (g.D.Disk.flash l.fn.disk).reads) ++ drop l.from (area_at l.one l.fn.ram (g.D.Disk.flash l.fn.disk).reads);
  other : IsTrue g.D.Disk.told → area_at l.other l.ram (g.D.Disk.flash l.disk).reads
      ≡ take l.from (area_at l.one l.fn.ram (g.D.Disk.flash l.fn.disk).reads) ++ drop l.from (area_at l.other l.fn.ram (g.D.Disk.flash l.fn.disk).reads);
  keeps : IsTrue g.D.Disk.told → Keeps (OutsideRooms l.one l.other) (g.D.Disk.flash l.fn.disk) (g.D.Disk.flash l.disk);
  grows : IsTrue g.D.Disk.told → Grows (g.D.Disk.flash l.fn.disk) (g.D.Disk.flash l.disk);
}

abbrev pub decreases-loop-from : goal.decreases-loop-from
decreases-loop-from g l = l.size - l.from
