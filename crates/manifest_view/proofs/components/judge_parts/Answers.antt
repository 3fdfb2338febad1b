use Rattle.suit_manifest.specs.ComponentsReading.{part_at}
use Rattle.manifest_view.proofs.Elements.{judged_step}
use Rattle.manifest_view.proofs.components.judge_parts.Goals as goal

pub loop-preserved : goal.loop-preserved
loop-preserved c =
    judged_step part_at c.args.count c.loop.counter c.loop.items c.read_item.new.cursor c.in_ok-item.item c.in_ok-judge_part.field-0 _ c.loop-test.true c.in_ok-item.ensures.exact c.in_ok-judge_part.ensures c.loop.invariant
