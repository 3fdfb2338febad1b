use Rattle.std.proofs.Common.{◌≡◌}
use Rattle.cli_tests.proofs.faults.first_fault.Given as goal

abbrev pub invariant-loop-command : goal.invariant-loop-command
invariant-loop-command g l =
    (goal.iterator-loop-command g).can_next l.command-iterator ×
    (goal.iterator-loop-command g).is_finite l.command-iterator ×
    (g.D.Disk.extent l.flash ≡ g.D.Disk.extent l.fn.flash)
