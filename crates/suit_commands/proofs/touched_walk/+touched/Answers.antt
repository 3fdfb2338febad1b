use Rattle.std.proofs.Common.{arith}
use Rattle.suit_commands.specs.Smaller.{step_smaller, branch_inside}
use Rattle.suit_commands.proofs.IndexedSteps.{step_indexed, branch_indexed}
use Rattle.suit_commands.proofs.touched_walk.+touched.Goals as goal

pub branches_touched-sequence_touched-total-requires : goal.branches_touched-sequence_touched-total-requires
branches_touched-sequence_touched-total-requires t c = (omega (arith, branch_inside c.as_slice-branch-items.result.now c.loop-branch.branch-index c.branch-item.result c.branch-item.result c.in-Some.inner c.args.branches.now c.loop-branch-test.true c.branch-item.is c.in-Some.is c.loop-branch.invariant.whole, c.decreases), (branch_indexed c.as_slice-branch-items.result.now c.loop-branch.branch-index _ c.branch-item.result c.in-Some.inner c.args.count c.loop-branch-test.true c.branch-item.is c.in-Some.is c.loop-branch.invariant.indexed, c.requires.few))

pub sequence_touched-command_touched-total-requires : goal.sequence_touched-command_touched-total-requires
sequence_touched-command_touched-total-requires t c = (omega (arith, step_smaller c.as_slice-step-items.result.now c.loop-step.step-index c.step-item.result c.step-item.result c.args.sequence.now c.loop-step-test.true c.step-item.is c.loop-step.invariant.whole, c.decreases), (step_indexed c.as_slice-step-items.result.now c.loop-step.step-index _ c.step-item.result c.args.count c.loop-step-test.true c.step-item.is c.loop-step.invariant.indexed, c.requires.few))
