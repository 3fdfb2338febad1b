use Rattle.std.proofs.Common.{◌≡◌, ◌++◌, drop, IsTrue}
use Rattle.suit_edge.specs.Flash.{IsSame}
use Rattle.suit_cli.specs.Installed.{component_lines}
use Rattle.suit_cli.proofs.components.push_components.Given as goal

-- the text so far and the lines that are left are the old text and all lines
abbrev pub invariant-loop-component : goal.invariant-loop-component
invariant-loop-component g l = record {
  extent : g.D.Disk.extent l.flash ≡ g.D.Disk.extent l.fn.flash;
  faults : g.D.Disk.faults l.flash ≡ g.D.Disk.faults l.fn.flash;
  same : IsTrue g.D.Disk.told → IsSame (g.D.Disk.flash l.fn.flash) (g.D.Disk.flash l.flash);
  lines : IsTrue g.D.Disk.told →
      l.text ++ component_lines l.component (drop l.component l.layout) l.active (g.D.Disk.flash l.fn.flash).reads
      ≡ l.fn.text ++ component_lines 0 l.layout l.active (g.D.Disk.flash l.fn.flash).reads;
}
