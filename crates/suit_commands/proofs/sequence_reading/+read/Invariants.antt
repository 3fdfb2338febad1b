use Rattle.std.proofs.Common.{◌≡◌, ◌-◌, ◌+◌, ◌*◌}
use Rattle.suit_commands.specs.SequenceReading.{inner_reader, branches_from, steps_from}
use Rattle.suit_commands.proofs.ReadingSteps.{with_branches, with_steps}
use Rattle.suit_commands.proofs.sequence_reading.+read.Given as goal

abbrev pub decreases-read_nested : goal.decreases-read_nested
decreases-read_nested l = 9 * l.scope.levels

abbrev pub decreases-read_run : goal.decreases-read_run
decreases-read_run l = 9 * l.scope.levels + 1

abbrev pub decreases-read_branch : goal.decreases-read_branch
decreases-read_branch l = 9 * l.scope.levels + 1

abbrev pub decreases-read_branches : goal.decreases-read_branches
decreases-read_branches l = 9 * l.scope.levels + 2

abbrev pub decreases-read_try : goal.decreases-read_try
decreases-read_try l = 9 * l.scope.levels + 3

abbrev pub decreases-read_argument : goal.decreases-read_argument
decreases-read_argument l = 9 * l.scope.levels + 4

abbrev pub decreases-read_step : goal.decreases-read_step
decreases-read_step l = 9 * l.scope.levels + 5

abbrev pub decreases-read_steps : goal.decreases-read_steps
decreases-read_steps l = 9 * l.scope.levels + 6

abbrev pub decreases-read_array : goal.decreases-read_array
decreases-read_array l = 9 * l.scope.levels + 7

-- the rest to read decides the answer
abbrev pub invariant-read_branches-loop-done : goal.invariant-read_branches-loop-done
invariant-read_branches-loop-done l =
    with_branches l.branches (branches_from (inner_reader l.scope) (l.number - l.done) l.cursor) ≡ branches_from (inner_reader l.scope) l.number l.fn.cursor

abbrev pub invariant-read_steps-loop : goal.invariant-read_steps-loop
invariant-read_steps-loop l =
    with_steps l.sequence (steps_from (inner_reader l.scope) l.scope.shared l.scope.count (l.steps - l.counter) l.cursor) ≡ steps_from (inner_reader l.scope) l.scope.shared l.scope.count l.steps l.fn.cursor
