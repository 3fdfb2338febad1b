use Rattle.std.proofs.Common.{◌+◌, ◌*◌}
use Rattle.path_checker_tests.proofs.tests.all_runs.+runs.Given as goal

abbrev pub decreases-inner : goal.decreases-inner
decreases-inner l = 8 * l.at.levels

abbrev pub decreases-after_branch : goal.decreases-after_branch
decreases-after_branch l = 8 * l.at.levels + 1

abbrev pub decreases-try_each : goal.decreases-try_each
decreases-try_each l = 8 * l.at.levels + 2

abbrev pub decreases-one : goal.decreases-one
decreases-one l = 8 * l.at.levels + 3

abbrev pub decreases-at_one : goal.decreases-at_one
decreases-at_one l = 8 * l.at.levels + 4

abbrev pub decreases-each : goal.decreases-each
decreases-each l = 8 * l.at.levels + 5

abbrev pub decreases-after_step : goal.decreases-after_step
decreases-after_step l = 8 * l.at.levels + 6

abbrev pub decreases-sequence : goal.decreases-sequence
decreases-sequence l = 8 * l.at.levels + 7
