use Rattle.std.proofs.Common.{◌≡◌, ◌++◌, drop}
use Rattle.det_cbor.specs.DataItem.{spell_items, spell_pairs}
use Rattle.det_cbor.specs.DataLists.{items_of, pairs_of}
use Rattle.det_cbor.specs.Prefix.{IsPrefix}
use Rattle.det_cbor.specs.ItemTree.{trees_of, pair_trees_of}
use Rattle.det_cbor.proofs.encoding.+push.Given as goal

-- the bytes written so far and the spelling of the rest are the whole spelling
abbrev pub invariant-push_items-loop-item : goal.invariant-push_items-loop-item
invariant-push_items-loop-item l =
    (l.out ++ spell_items (items_of (trees_of (drop l.item-index l.item-items))) ≡ l.fn.out ++ spell_items (items_of (trees_of l.item-items)))
    × IsPrefix l.fn.out l.out

abbrev pub invariant-push_pairs-loop-key : goal.invariant-push_pairs-loop-key
invariant-push_pairs-loop-key l =
    (l.out ++ spell_pairs (pairs_of (pair_trees_of (drop l.key-index l.key-items))) ≡ l.fn.out ++ spell_pairs (pairs_of (pair_trees_of l.key-items)))
    × IsPrefix l.fn.out l.out
