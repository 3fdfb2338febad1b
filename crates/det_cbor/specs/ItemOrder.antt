-- The order of data items by heads and parts, as the comparison that spells nothing finds it.
use Rattle.std.specs.Prelude.{ℕ, true, false, List, [], length}
use Rattle.std.specs.declared.cmp.Ordering.{Ordering}
use Rattle.std.specs.declared.cmp.Ordering.TheVariants.{Equal}
use Rattle.std.specs.Ordering.{ordering_then, nat_cmp}
use Rattle.std.specs.Cmp.Lexicographic.{slice_cmp}
use Rattle.det_cbor.specs.DataItem.{DataItem, UnsignedInteger, NegativeInteger, ByteString, TextString, ArrayOf, MapOf, TaggedItem, Boolean, NullItem, DataItems, ItemThen, DataPairs, PairThen, item_count, pair_count, spell, spell_items, spell_pairs}

-- the major type of an item (RFC 8949, section 3.1)
abbrev pub major_type : DataItem → ℕ
major_type (UnsignedInteger n) = 0
major_type (NegativeInteger n) = 1
major_type (ByteString bytes) = 2
major_type (TextString bytes) = 3
major_type (ArrayOf xs) = 4
major_type (MapOf ps) = 5
major_type (TaggedItem tag x) = 6
major_type (Boolean b) = 7
major_type NullItem = 7

-- the argument of an item's head: 20 for false, 21 for true and 22 for null
abbrev pub head_argument : DataItem → ℕ
head_argument (UnsignedInteger n) = n
head_argument (NegativeInteger n) = n
head_argument (ByteString bytes) = length bytes
head_argument (TextString bytes) = length bytes
head_argument (ArrayOf xs) = item_count xs
head_argument (MapOf ps) = pair_count ps
head_argument (TaggedItem tag x) = tag
head_argument (Boolean false) = 20
head_argument (Boolean true) = 21
head_argument NullItem = 22

-- what follows the head in an item's spelling
abbrev pub spell_parts : DataItem → List ℕ
spell_parts (UnsignedInteger n) = []
spell_parts (NegativeInteger n) = []
spell_parts (ByteString bytes) = bytes
spell_parts (TextString bytes) = bytes
spell_parts (ArrayOf xs) = spell_items xs
spell_parts (MapOf ps) = spell_pairs ps
spell_parts (TaggedItem tag x) = spell x
spell_parts (Boolean b) = []
spell_parts NullItem = []

-- two heads are ordered by their major types, and then by their arguments
abbrev pub head_order : DataItem → DataItem → Ordering
head_order x y =
    ordering_then (nat_cmp (major_type x) (major_type y))
    (nat_cmp (head_argument x) (head_argument y))

-- the order of two items whose heads are equal
abbrev mutual
  pub parts_order : DataItem → DataItem → Ordering
  parts_order (ByteString a) (ByteString b) = slice_cmp nat_cmp a b
  parts_order (TextString a) (TextString b) = slice_cmp nat_cmp a b
  parts_order (ArrayOf xs) (ArrayOf ys) = items_order xs ys
  parts_order (MapOf ps) (MapOf qs) = pairs_order ps qs
  parts_order (TaggedItem m x) (TaggedItem n y) = ordering_then (head_order x y) (parts_order x y)
  parts_order _ _ = Equal

  pub items_order : DataItems → DataItems → Ordering
  items_order (ItemThen x xs) (ItemThen y ys) =
      ordering_then (ordering_then (head_order x y) (parts_order x y)) (items_order xs ys)
  items_order _ _ = Equal

  pub pairs_order : DataPairs → DataPairs → Ordering
  pairs_order (PairThen k v ps) (PairThen l w qs) =
      ordering_then
      (ordering_then (ordering_then (head_order k l) (parts_order k l))
      (ordering_then (head_order v w) (parts_order v w)))
      (pairs_order ps qs)
  pairs_order _ _ = Equal

-- two items are ordered by their heads, and then by their parts
abbrev pub item_order : DataItem → DataItem → Ordering
item_order x y = ordering_then (head_order x y) (parts_order x y)

-- two pairs are ordered by their keys, and then by their values
abbrev pub pair_order : DataItem × DataItem → DataItem × DataItem → Ordering
pair_order p q = ordering_then (item_order p.0 q.0) (item_order p.1 q.1)
