use Rattle.std.proofs.Common.{◌≡◌, drop}
use Rattle.det_cbor.specs.DataLists.{items_of, pairs_of}
use Rattle.det_cbor.specs.ItemOrder.{items_order, pairs_order}
use Rattle.det_cbor.specs.ItemTree.{trees_of, pair_trees_of}
use Rattle.det_cbor.proofs.compare.+compare.Given as goal

-- the items so far are equal, so the rest decides
abbrev pub invariant-compare_items-loop-index : goal.invariant-compare_items-loop-index
invariant-compare_items-loop-index l =
    items_order (items_of (trees_of (drop l.index l.item-items))) (items_of (trees_of (drop l.index l.right-inside.held.items)))
    ≡ items_order (items_of (trees_of l.item-items)) (items_of (trees_of l.right-inside.held.items))

abbrev pub invariant-compare_pairs-loop-index : goal.invariant-compare_pairs-loop-index
invariant-compare_pairs-loop-index l =
    pairs_order (pairs_of (pair_trees_of (drop l.index l.pair-items))) (pairs_of (pair_trees_of (drop l.index l.right-inside.held.items)))
    ≡ pairs_order (pairs_of (pair_trees_of l.pair-items)) (pairs_of (pair_trees_of l.right-inside.held.items))
