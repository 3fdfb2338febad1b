use Rattle.std.proofs.Common.{option_map, None}
use Rattle.det_cbor.specs.DataItem.{spell, ArePairsWithin}
use Rattle.det_cbor.specs.DataLists.{pairs_of}
use Rattle.det_cbor.specs.ItemTree.{tree_of, pair_trees_of}
use Rattle.det_cbor.proofs.PairSteps.{pair_kept}
use Rattle.det_cbor.proofs.validity.+valid.Goals as goal

pub are_pairs_valid-loop-key-preserved : goal.are_pairs_valid-loop-key-preserved
are_pairs_valid-loop-key-preserved t c =
    pair_kept c.args.levels (option_map (λ x. spell (tree_of x.now)) c.loop-key.before) c.loop-key-item.result c.deref-key-items.result.now c.loop-key.key-index
    (ArePairsWithin c.args.levels None (pairs_of (pair_trees_of c.deref-key-items.result.now)))
    c.loop-key-test.true c.loop-key-item.is
    (c.is_valid_within.ensures.0 c.if-not-is_valid_within.false)
    (c.is_above.ensures.0 c.if-not-is_above.false)
    (c.is_valid_within-else-not-is_above.ensures.0 c.if-not-is_valid_within-2.false)
    c.loop-key.invariant.1
