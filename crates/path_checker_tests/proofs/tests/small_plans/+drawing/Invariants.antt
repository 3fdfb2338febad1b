use Rattle.std.proofs.Common.{◌+◌, ◌*◌}
use Rattle.path_checker_tests.proofs.tests.small_plans.+drawing.Given as goal

abbrev pub decreases-push_command : goal.decreases-push_command
decreases-push_command l = 2 * l.levels

abbrev pub decreases-drawn : goal.decreases-drawn
decreases-drawn l = 2 * l.levels + 1
