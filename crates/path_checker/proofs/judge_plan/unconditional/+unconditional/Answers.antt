use Rattle.std.proofs.Common.{arith}
use Rattle.suit_commands.specs.Smaller.{step_smaller}
use Rattle.path_checker.proofs.judge_plan.unconditional.+unconditional.Goals as goal

pub are_unconditional-is_unconditional-requires : goal.are_unconditional-is_unconditional-requires
are_unconditional-is_unconditional-requires t c = (omega (arith, step_smaller c.as_slice-step-items.result.now c.loop-step.step-index c.step-item.result c.step-item.result c.args.sequence.now c.loop-step-test.true c.step-item.is c.loop-step.invariant.whole, c.decreases), tt)
