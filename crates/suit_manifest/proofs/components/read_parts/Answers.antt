use Rattle.suit_manifest.specs.ComponentsReading.{part_at}
use Rattle.suit_manifest.proofs.ElementSteps.{all_step}
use Rattle.suit_manifest.proofs.components.read_parts.Goals as goal

pub loop-preserved : goal.loop-preserved
loop-preserved c =
    rw c.in_ok-push.ensures.ok
    (all_step part_at c.loop.parts c.args.count c.loop.counter c.loop.items c.read_item.new.cursor c.in_ok-item.item c.in_ok-read_part.field-0 _ c.loop-test.true c.in_ok-item.ensures.exact c.in_ok-read_part.ensures c.loop.invariant)
