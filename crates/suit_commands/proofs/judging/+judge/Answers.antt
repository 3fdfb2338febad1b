use Rattle.suit_commands.specs.Judged.{inner_by}
use Rattle.suit_commands.proofs.JudgingSteps.{branch_judged, step_judged}
use Rattle.suit_commands.proofs.judging.+judge.Goals as goal

pub judge_branches-loop-done-preserved : goal.judge_branches-loop-done-preserved
judge_branches-loop-done-preserved t c =
    branch_judged (inner_by c.args.rules) c.args.number c.loop-done.done c.loop-done.cursor c.judge_branch.new.cursor _ c.loop-done-test.true c.in_ok-judge_branch.ensures c.loop-done.invariant

pub judge_steps-loop-preserved : goal.judge_steps-loop-preserved
judge_steps-loop-preserved t c =
    step_judged (inner_by c.args.rules) c.args.rules.shared c.args.rules.count c.args.steps c.loop.counter c.loop.cursor c.judge_step.new.cursor _ c.loop-test.true c.in_ok-judge_step.ensures c.loop.invariant
