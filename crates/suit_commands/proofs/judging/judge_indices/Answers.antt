use Rattle.std.proofs.Common.{sym}
use Rattle.suit_commands.proofs.JudgingSteps.{index_judged}
use Rattle.suit_commands.proofs.judging.judge_indices.Goals as goal

pub loop-preserved : goal.loop-preserved
loop-preserved c =
    index_judged c.args.count c.args.list c.args.elements c.loop.counter c.loop.cursor c.read_element.new.cursor c.in_ok-read_element.field-0 _ c.loop-test.true (sym c.in_ok-read_element.ensures) c.loop.invariant
