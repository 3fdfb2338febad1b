use Rattle.suit_envelope.proofs.Loops.{blocks_step}
use Rattle.suit_envelope.proofs.wrapper.blocks.Goals as goal

pub loop-preserved : goal.loop-preserved
loop-preserved c = blocks_step c.args.count c.loop.counter c.loop.elements c.read_content.new.cursor c.in_ok-read_content.field-0 _ c.loop-test.true c.in_ok-read_content.ensures c.loop.invariant
