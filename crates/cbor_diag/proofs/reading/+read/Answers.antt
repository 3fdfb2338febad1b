use Rattle.std.proofs.Common.{length}
use Rattle.det_cbor.specs.ItemTree.{tree_of}
use Rattle.cbor_diag.specs.Reading.{item_at}
use Rattle.cbor_diag.proofs.Steps.{items_step, pairs_step}
use Rattle.cbor_diag.proofs.reading.+read.Goals as goal

pub read_items-loop-preserved : goal.read_items-loop-preserved
read_items-loop-preserved t c =
    rw c.in_ok-push.ensures.ok
    (items_step (item_at c.args.levels) c.loop.items (length c.args.text.now) c.loop.counter c.loop.rest.now (tree_of c.in_ok-item.item) c.in_ok-item.later.now c.past-rest.result.now _
    c.loop-test.true c.in_default.ensures c.in_ok-item.ensures c.past-rest.ensures c.loop.invariant)

pub read_pairs-loop-preserved : goal.read_pairs-loop-preserved
read_pairs-loop-preserved t c =
    rw c.in_ok-push.ensures.ok
    (pairs_step (item_at c.args.levels) c.loop.pairs (length c.args.text.now) c.loop.counter c.loop.rest.now (tree_of c.in_ok-key.key) (tree_of c.in_ok-value.value)
    c.in_ok-key.after_key.now c.past.result.now c.in_ok-value.later.now c.past-rest.result.now _
    c.loop-test.true c.in_default.ensures c.in_ok-key.ensures c.past.ensures c.in_ok-value.ensures c.past-rest.ensures c.loop.invariant)
