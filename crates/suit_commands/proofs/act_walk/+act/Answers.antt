use Rattle.std.proofs.Common.{arith}
use Rattle.suit_commands.specs.Smaller.{step_smaller, branch_inside}
use Rattle.suit_commands.proofs.act_walk.+act.Goals as goal

pub branches_have_act-has_act-requires : goal.branches_have_act-has_act-requires
branches_have_act-has_act-requires t c = (omega (arith, branch_inside c.as_slice-branch-items.result.now c.loop-branch.branch-index c.branch-item.result c.branch-item.result c.in-Some.inner c.args.branches.now c.loop-branch-test.true c.branch-item.is c.in-Some.is c.loop-branch.invariant.whole, c.decreases), tt)

pub has_act-command_has_act-requires : goal.has_act-command_has_act-requires
has_act-command_has_act-requires t c = (omega (arith, step_smaller c.as_slice-step-items.result.now c.loop-step.step-index c.step-item.result c.step-item.result c.args.sequence.now c.loop-step-test.true c.step-item.is c.loop-step.invariant.whole, c.decreases), tt)
