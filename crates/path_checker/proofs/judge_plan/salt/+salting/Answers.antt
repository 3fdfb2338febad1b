use Rattle.std.proofs.Common.{arith}
use Rattle.suit_commands.specs.Smaller.{step_smaller, branch_inside}
use Rattle.path_checker.proofs.judge_plan.salt.+salting.Goals as goal

pub read_branches-read_sequence-requires : goal.read_branches-read_sequence-requires
read_branches-read_sequence-requires t c = (omega (arith, branch_inside c.as_slice-branch-items.result.now c.loop-branch.branch-index c.branch-item.result c.branch-item.result c.in-Some.inner c.args.branches.now c.loop-branch-test.true c.branch-item.is c.in-Some.is c.loop-branch.invariant, c.decreases), tt)

pub read_sequence-read_command-requires : goal.read_sequence-read_command-requires
read_sequence-read_command-requires t c = (omega (arith, step_smaller c.as_slice-step-items.result.now c.loop-step.step-index c.step-item.result c.step-item.result c.args.sequence.now c.loop-step-test.true c.step-item.is c.loop-step.invariant, c.decreases), tt)
