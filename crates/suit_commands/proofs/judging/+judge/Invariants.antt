use Rattle.std.proofs.Common.{◌≡◌, ◌-◌, ◌+◌, ◌*◌}
use Rattle.suit_commands.specs.Judged.{inner_by, behind}
use Rattle.suit_commands.specs.SequenceReading.{branches_from, steps_from}
use Rattle.suit_commands.proofs.JudgingSteps.{judged}
use Rattle.suit_commands.proofs.judging.+judge.Given as goal

abbrev pub decreases-judge_nested : goal.decreases-judge_nested
decreases-judge_nested l = 9 * l.rules.levels

abbrev pub decreases-judge_run : goal.decreases-judge_run
decreases-judge_run l = 9 * l.rules.levels + 1

abbrev pub decreases-judge_branch : goal.decreases-judge_branch
decreases-judge_branch l = 9 * l.rules.levels + 1

abbrev pub decreases-judge_branches : goal.decreases-judge_branches
decreases-judge_branches l = 9 * l.rules.levels + 2

abbrev pub decreases-judge_try : goal.decreases-judge_try
decreases-judge_try l = 9 * l.rules.levels + 3

abbrev pub decreases-judge_argument : goal.decreases-judge_argument
decreases-judge_argument l = 9 * l.rules.levels + 4

abbrev pub decreases-judge_step : goal.decreases-judge_step
decreases-judge_step l = 9 * l.rules.levels + 5

abbrev pub decreases-judge_steps : goal.decreases-judge_steps
decreases-judge_steps l = 9 * l.rules.levels + 6

abbrev pub decreases-judge_array : goal.decreases-judge_array
decreases-judge_array l = 9 * l.rules.levels + 7

-- the rest to judge decides the answer
abbrev pub invariant-judge_branches-loop-done : goal.invariant-judge_branches-loop-done
invariant-judge_branches-loop-done l =
    behind (branches_from (inner_by l.rules) (l.number - l.done) l.cursor) ≡ behind (branches_from (inner_by l.rules) l.number l.fn.cursor)

abbrev pub invariant-judge_steps-loop : goal.invariant-judge_steps-loop
invariant-judge_steps-loop l =
    judged (steps_from (inner_by l.rules) l.rules.shared l.rules.count (l.steps - l.counter) l.cursor) ≡ judged (steps_from (inner_by l.rules) l.rules.shared l.rules.count l.steps l.fn.cursor)
