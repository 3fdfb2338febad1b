use Rattle.flash_layout.proofs.Steps.{parts_step}
use Rattle.flash_layout.proofs.id_reading.read_parts.Goals as goal

pub loop-preserved : goal.loop-preserved
loop-preserved c =
    rw c.in_ok-push.ensures.ok
    (parts_step c.loop.parts c.args.count c.loop.counter c.loop.items c.read_content.new.cursor c.in_ok-content.content c.in_ok-copy_left.field-0 _ c.loop-test.true c.in_ok-content.ensures c.in_ok-copy_left.ensures c.loop.invariant)
