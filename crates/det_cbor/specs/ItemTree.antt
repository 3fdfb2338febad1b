-- The data item that a value of the code stands for.
use Rattle.std.specs.Prelude.{List, map}
use Rattle.det_cbor.specs.DataItem.{DataItem, UnsignedInteger, NegativeInteger, ByteString, TextString, ArrayOf, MapOf, TaggedItem, Boolean, NullItem}
use Rattle.det_cbor.specs.DataLists.{items_of, pairs_of}
use Rattle.det_cbor.specs.declared.item.Item.{Item}
use Rattle.det_cbor.specs.declared.item.Item.TheVariants as item

-- the data item of a value; lists and tags already hold data items in the model
abbrev pub tree_of : Item → DataItem
tree_of (item.Unsigned n) = UnsignedInteger n
tree_of (item.Negative n) = NegativeInteger n
tree_of (item.Bytes bytes) = ByteString bytes
tree_of (item.Text text) = TextString text
tree_of (item.Array items) = ArrayOf (items_of items)
tree_of (item.Map pairs) = MapOf (pairs_of pairs)
tree_of (item.Tagged tag inner) = TaggedItem tag inner
tree_of (item.Bool truth) = Boolean truth
tree_of item.Null = NullItem

abbrev pub pair_of : Item × Item → DataItem × DataItem
pair_of p = (tree_of p.0, tree_of p.1)

abbrev pub trees_of : List Item → List DataItem
trees_of xs = map tree_of xs

abbrev pub pair_trees_of : List (Item × Item) → List (DataItem × DataItem)
pair_trees_of ps = map pair_of ps
