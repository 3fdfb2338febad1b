use Rattle.suit_envelope.proofs.Loops.{pass_step}
use Rattle.suit_envelope.proofs.wrapper_parts.pass.Goals as goal

pub loop-preserved : goal.loop-preserved
loop-preserved c = pass_step c.args.number c.loop.counter c.loop.elements c.read_content.new.cursor c.in_ok-read_content.field-0 _ c.loop-test.true c.in_ok-read_content.ensures c.loop.invariant
