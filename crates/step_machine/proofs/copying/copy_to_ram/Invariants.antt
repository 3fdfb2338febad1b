use Rattle.std.proofs.Common.{◌≡◌, ◌≤◌, ◌-◌, IsTrue, length, take}
use Rattle.suit_edge.specs.Flash.{Grows, IsSame}
use Rattle.flash_slots.specs.RamContents.{held_by, holding}
use Rattle.step_machine.specs.Areas.{area_at}
use Rattle.step_machine.proofs.copying.copy_to_ram.Given as goal

abbrev pub invariant-loop-from : goal.invariant-loop-from
invariant-loop-from g l = record {
  within : l.from ≤ l.size;
  room : length l.room ≡ length l.fn.room;
  ram : l.ram ≡ holding l.fn.ram l.component (held_by l.ram l.component).content;
  long : length (held_by l.ram l.component).content ≡ l.from;
  size : g.D.Disk.extent l.disk ≡ g.D.Disk.extent l.fn.disk;
  faults : g.D.Disk.faults l.disk ≡ g.D.Disk.faults l.fn.disk;
  content : IsTrue g.D.Disk.told → (held_by l.ram l.component).content ≡ take l.from (area_at l.source l.fn.ram (g.D.Disk.flash l.fn.disk).reads);
  same : IsTrue g.D.Disk.told → IsSame (g.D.Disk.flash l.fn.disk) (g.D.Disk.flash l.disk);
  grows : IsTrue g.D.Disk.told → Grows (g.D.Disk.flash l.fn.disk) (g.D.Disk.flash l.disk);
}

abbrev pub decreases-loop-from : goal.decreases-loop-from
decreases-loop-from g l = l.size - l.from
