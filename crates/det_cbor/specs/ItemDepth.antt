-- A part of an item is smaller than the item.
use Rattle.std.specs.Prelude.{◌≤◌, max, List, [], ◌∷◌}
use Rattle.std.proofs.Common.{arith}
use denote.Param.Weighed.{most}
use Rattle.det_cbor.specs.declared.item.Item.{Item}
use Rattle.det_cbor.specs.declared.item.Item.TheVariants as item
use Rattle.det_cbor.specs.declared.item.Inner.TheDeep.{deep-Item}
use Rattle.det_cbor.specs.DataLists.{item_size, list_size, pair_list_size}
use Rattle.det_cbor.specs.ItemTree.{tree_of, trees_of, pair_trees_of}

pub item_falls : (x : Item) → max (deep-Item x) 0 ≤ item_size (tree_of x)
item_falls item.Null = omega arith
item_falls _ = omega arith

pub items_fall : (xs : List Item) → max (most deep-Item xs) 0 ≤ list_size (trees_of xs)
items_fall [] = omega arith
items_fall (x ∷ xs) = omega (arith, item_falls x, items_fall xs)

pub pairs_fall : (ps : List (Item × Item))
    → max (most (λ p. max (deep-Item p.0) (max (deep-Item p.1) 0)) ps) 0
    ≤ pair_list_size (pair_trees_of ps)
pairs_fall [] = omega arith
pairs_fall (p ∷ ps) = omega (arith, item_falls p.0, item_falls p.1, pairs_fall ps)
