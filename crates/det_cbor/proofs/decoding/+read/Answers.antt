use Rattle.std.specs.Prelude.{option_map}
use Rattle.det_cbor.specs.ItemTree.{tree_of}
use Rattle.det_cbor.specs.ItemReading.{item_at}
use Rattle.det_cbor.proofs.ReadingSteps.{items_step, pairs_step}
use Rattle.det_cbor.proofs.decoding.+read.Goals as goal

pub read_items-loop-preserved : goal.read_items-loop-preserved
read_items-loop-preserved t c =
    rw c.in_ok-push.ensures.ok
    (items_step (item_at c.args.levels) c.loop.items c.args.count c.loop.counter c.loop.rest.now (tree_of c.in_ok-item.item) c.in_ok-item.after.now _ c.loop-test.true c.in_ok-item.ensures c.loop.invariant)

pub read_pairs-loop-preserved : goal.read_pairs-loop-preserved
read_pairs-loop-preserved t c =
    rw c.in_ok-push.ensures.ok
    (pairs_step (item_at c.args.levels) c.loop.pairs (option_map (λ b. b.now) c.loop.before) c.args.count c.loop.counter c.loop.rest.now c.read_before-spelled.result.now (tree_of c.in_ok-key.key) (tree_of c.in_ok-value.value)
    c.in_ok-key.after_key.now c.in_ok-value.after.now _ c.loop-test.true c.in_ok-key.ensures c.read_before-spelled.ensures c.in_ok-order.ensures c.in_ok-value.ensures c.loop.invariant)
