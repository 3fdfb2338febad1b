use Rattle.det_cbor.specs.DataLists.{pairs_of}
use Rattle.det_cbor.specs.ItemOrder.{pairs_order}
use Rattle.det_cbor.specs.ItemTree.{pair_trees_of}
use Rattle.det_cbor.proofs.PairSteps.{pair_decides}
use Rattle.det_cbor.proofs.compare.+compare.Goals as goal

pub compare_pairs-returns-in_default-compare_pair : goal.compare_pairs-returns-in_default-compare_pair
compare_pairs-returns-in_default-compare_pair t c =
    let found = c.in-Some.ensures.lookup in
    let left = c.deref-pair-items.ensures.value in
    let right = c.deref.ensures.value in
    let whole = pair_decides c.deref-pair-items.result.now c.deref.result.now c.loop-index.index c.pair-item.result c.in-Some.other.now c.compare_pair.result
    (pairs_order (pairs_of (pair_trees_of c.deref-pair-items.result.now)) (pairs_of (pair_trees_of c.deref.result.now)))
    c.loop-index-test.true found.3.0 c.pair-item.is found.1 c.compare_pair.ensures c.in_default-compare_pair.not-Equal (rw right c.loop-index.invariant) in
    rw (← c.left.view_is, ← c.right.view_is, ← left, ← right) whole
