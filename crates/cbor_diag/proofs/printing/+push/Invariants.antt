use Rattle.std.proofs.Common.{◌≡◌, ◌++◌, ◌+◌, ◌*◌, drop, string_bytes}
use Rattle.det_cbor.specs.DataLists.{items_of, pairs_of, item_size, list_size, pair_list_size}
use Rattle.det_cbor.specs.ItemTree.{tree_of, trees_of, pair_trees_of}
use Rattle.cbor_diag.specs.Notation.{items_notation, later_items, pairs_notation, later_pairs}
use Rattle.cbor_diag.proofs.printing.+push.Given as goal

abbrev pub decreases-push_item : goal.decreases-push_item
decreases-push_item l = 3 * item_size (tree_of l.item.now)

abbrev pub decreases-push_items : goal.decreases-push_items
decreases-push_items l = 3 * list_size (trees_of l.items.now) + 1

abbrev pub decreases-push_pair : goal.decreases-push_pair
decreases-push_pair l = 3 * (item_size (tree_of l.pair.now.0) + item_size (tree_of l.pair.now.1)) + 1

abbrev pub decreases-push_pairs : goal.decreases-push_pairs
decreases-push_pairs l = 3 * pair_list_size (pair_trees_of l.pairs.now) + 2

-- the notation so far and that of the rest are the whole notation
abbrev pub invariant-push_items-loop-item : goal.invariant-push_items-loop-item
invariant-push_items-loop-item l =
    string_bytes l.out ++ later_items (items_of (trees_of (drop l.item-index l.later))) ≡ string_bytes l.fn.out ++ items_notation (items_of (trees_of l.items))

abbrev pub invariant-push_pairs-loop-pair : goal.invariant-push_pairs-loop-pair
invariant-push_pairs-loop-pair l =
    string_bytes l.out ++ later_pairs (pairs_of (pair_trees_of (drop l.pair-index l.later))) ≡ string_bytes l.fn.out ++ pairs_notation (pairs_of (pair_trees_of l.pairs))
