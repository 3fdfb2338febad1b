use Rattle.std.proofs.Common.{◌↔◌, drop, option_map, None}
use Rattle.std.specs.Prelude.{IfSome}
use Rattle.det_cbor.specs.DataItem.{IsValid, AreValidWithin, ArePairsWithin, spell}
use Rattle.det_cbor.specs.DataLists.{items_of, pairs_of}
use Rattle.det_cbor.specs.ItemTree.{tree_of, trees_of, pair_trees_of}
use Rattle.det_cbor.proofs.validity.+valid.Given as goal

-- the rest decides
abbrev pub invariant-are_items_valid-loop-item : goal.invariant-are_items_valid-loop-item
invariant-are_items_valid-loop-item l =
    AreValidWithin l.levels (items_of (trees_of (drop l.item-index l.item-items))) ↔ AreValidWithin l.levels (items_of (trees_of l.item-items))

-- the key before is valid, and what is left decides
abbrev pub invariant-are_pairs_valid-loop-key : goal.invariant-are_pairs_valid-loop-key
invariant-are_pairs_valid-loop-key l =
    IfSome l.before (λ x. IsValid (tree_of x.now))
    × (ArePairsWithin l.levels (option_map (λ x. spell (tree_of x.now)) l.before) (pairs_of (pair_trees_of (drop l.key-index l.key-items)))
    ↔ ArePairsWithin l.levels None (pairs_of (pair_trees_of l.key-items)))
