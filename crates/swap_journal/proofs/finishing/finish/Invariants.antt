use Rattle.std.proofs.Common.{◌≡◌, ◌++◌, IsTrue}
use Rattle.suit_edge.specs.Flash.{Grows, IsSettled, Keeps, Passes}
use Rattle.suit_edge.specs.Ranges.{OutsideEach}
use Rattle.swap_journal.specs.Exchanges.{areas}
use Rattle.swap_journal.specs.Progress.{GivesProgress, RecoversNow, entries}
use Rattle.swap_journal.proofs.finishing.finish.Given as goal

abbrev pub invariant-loop-copy : goal.invariant-loop-copy
invariant-loop-copy g l = record {
  size : g.D.Disk.extent l.disk ≡ g.D.Disk.extent l.fn.disk;
  faults : g.D.Disk.faults l.disk ≡ g.D.Disk.faults l.fn.disk;
  settled : IsTrue g.D.Disk.told → IsSettled (g.D.Disk.flash l.disk);
  gives : IsTrue g.D.Disk.told → GivesProgress (g.D.Disk.flash l.disk).reads l.page l.spare l.copy;
  moments : IsTrue g.D.Disk.told → Passes (g.D.Disk.flash l.fn.disk) (g.D.Disk.flash l.disk) (RecoversNow l.exchange l.page (g.D.Disk.flash l.fn.disk).reads);
  keeps : IsTrue g.D.Disk.told → Keeps (OutsideEach (areas l.exchange ++ entries l.page)) (g.D.Disk.flash l.fn.disk) (g.D.Disk.flash l.disk);
  grows : IsTrue g.D.Disk.told → Grows (g.D.Disk.flash l.fn.disk) (g.D.Disk.flash l.disk);
}
