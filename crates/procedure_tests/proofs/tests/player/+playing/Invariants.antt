use Rattle.std.proofs.Common.{◌+◌, ◌*◌}
use Rattle.procedure_tests.proofs.tests.player.+playing.Given as goal

abbrev pub decreases-inner : goal.decreases-inner
decreases-inner l = 6 * l.at.levels

abbrev pub decreases-try_each : goal.decreases-try_each
decreases-try_each l = 6 * l.at.levels + 1

abbrev pub decreases-one : goal.decreases-one
decreases-one l = 6 * l.at.levels + 2

abbrev pub decreases-each : goal.decreases-each
decreases-each l = 6 * l.at.levels + 3

abbrev pub decreases-sequence : goal.decreases-sequence
decreases-sequence l = 6 * l.at.levels + 4
