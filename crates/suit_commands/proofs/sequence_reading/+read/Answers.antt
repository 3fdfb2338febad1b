use Rattle.std.proofs.Common.{arith}
use Rattle.suit_commands.specs.View.{command_tree}
use Rattle.suit_commands.specs.SequenceReading.{inner_reader}
use Rattle.suit_commands.proofs.ReadingSteps.{branches_step, branches_done, steps_step, steps_done}
use Rattle.suit_commands.proofs.sequence_reading.+read.Goals as goal

pub read_branches-loop-done-preserved : goal.read_branches-loop-done-preserved
read_branches-loop-done-preserved t c =
    rw c.in_ok-push.ensures.ok
    (branches_step (inner_reader c.args.scope) c.loop-done.branches c.args.number c.loop-done.done c.loop-done.cursor c.read_branch.new.cursor c.in_ok-branch.branch _ c.loop-done-test.true c.in_ok-branch.ensures c.loop-done.invariant)

pub read_branches-returns : goal.read_branches-returns
read_branches-returns t c = branches_done (inner_reader c.args.scope) c.loop-done.branches c.args.number c.loop-done.done c.loop-done.cursor _ (omega (arith, c.loop-done-test.false)) c.loop-done.invariant

pub read_steps-loop-preserved : goal.read_steps-loop-preserved
read_steps-loop-preserved t c =
    rw (c.in_ok-push.ensures.ok, c.place-place.ensures.value)
    (steps_step (inner_reader c.args.scope) c.args.scope.shared c.args.scope.count c.loop.sequence c.args.steps c.loop.counter c.loop.cursor c.read_step.new.cursor (command_tree c.in_ok-command.command) _ c.loop-test.true
    c.in_ok-command.ensures c.loop.invariant)

pub read_steps-returns : goal.read_steps-returns
read_steps-returns t c =
    steps_done (inner_reader c.args.scope) c.args.scope.shared c.args.scope.count c.loop.sequence c.args.steps c.loop.counter c.loop.cursor _ (omega (arith, c.loop-test.false)) c.loop.invariant
