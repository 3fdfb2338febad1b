use Rattle.std.proofs.Common.{ℕ}
use Rattle.suit_commands.proofs.JudgingSteps.{index_judged}
use Rattle.suit_cursor.proofs.Known.{answer_is}
use Rattle.suit_cursor.proofs.indices.lend_indices.Goals as goal

pub loop-preserved : goal.loop-preserved
loop-preserved c =
    index_judged c.args.count c.args.list c.args.elements c.loop.counter c.loop.cursor c.read_element.new.cursor c.unwrap.result _ c.loop-test.true
    (answer_is (λ (i : ℕ). (i, c.read_element.new.cursor)) c.read_element.result _ c.unwrap.result c.read_element.ensures c.unwrap.ensures) c.loop.invariant
