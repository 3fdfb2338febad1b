-- Data items in lists, as the types of the code hold them.
use Rattle.std.specs.Prelude.{ℕ, ◌+◌, List, [], ◌∷◌}
use Rattle.det_cbor.specs.DataItem.{DataItem, UnsignedInteger, NegativeInteger, ByteString, TextString, ArrayOf, MapOf, TaggedItem, Boolean, NullItem, DataItems, NoItems, ItemThen, DataPairs, NoPairs, PairThen}

abbrev pub items_of : List DataItem → DataItems
items_of [] = NoItems
items_of (x ∷ xs) = ItemThen x (items_of xs)

abbrev pub pairs_of : List (DataItem × DataItem) → DataPairs
pairs_of [] = NoPairs
pairs_of (p ∷ ps) = PairThen p.0 p.1 (pairs_of ps)

-- ---- the size of an item, which is greater than that of each part

abbrev mutual
  pub item_size : DataItem → ℕ
  item_size (UnsignedInteger n) = 1
  item_size (NegativeInteger n) = 1
  item_size (ByteString bytes) = 1
  item_size (TextString bytes) = 1
  item_size (ArrayOf xs) = 1 + items_size xs
  item_size (MapOf ps) = 1 + pairs_size ps
  item_size (TaggedItem tag x) = 1 + item_size x
  item_size (Boolean b) = 1
  item_size NullItem = 1

  pub items_size : DataItems → ℕ
  items_size NoItems = 0
  items_size (ItemThen x xs) = item_size x + items_size xs

  pub pairs_size : DataPairs → ℕ
  pairs_size NoPairs = 0
  pairs_size (PairThen key value ps) = item_size key + item_size value + pairs_size ps

abbrev pub list_size : List DataItem → ℕ
list_size xs = items_size (items_of xs)

abbrev pub pair_list_size : List (DataItem × DataItem) → ℕ
pair_list_size ps = pairs_size (pairs_of ps)
