use Rattle.std.proofs.Common.{◌+◌}
use Rattle.suit_cli.proofs.DrillLoop.{Drilled}
use Rattle.suit_cli.proofs.drill.run_rounds.Given as goal

abbrev pub invariant-loop-done : goal.invariant-loop-done
invariant-loop-done l = Drilled l.fn.number l.draw (l.done + 1) l.flash l.tally l.launcher.launches
