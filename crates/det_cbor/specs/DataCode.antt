-- A one-to-one code of data items, as the model of a list asks of its elements.
use Rattle.std.specs.Prelude.{◌≡◌, ℕ, List, refl}
use Rattle.std.proofs.Common.{ap}
use Rattle.std.specs.Coded.{Coded, coded_list, coded_ℕ, coded_bool, coded×}
use base.Stored.{Gv, gnil, gnum, gcons}
pub use Rattle.det_cbor.specs.DataItem.{DataItem}
pub use Rattle.det_cbor.specs.DataLists.{item_size, list_size, pair_list_size}
use Rattle.det_cbor.specs.DataItem.{UnsignedInteger, NegativeInteger, ByteString, TextString, ArrayOf, MapOf, TaggedItem, Boolean, NullItem, DataItems, NoItems, ItemThen, DataPairs, NoPairs, PairThen}

abbrev string_code : Coded (List ℕ)
string_code = coded_list coded_ℕ

-- the number in a code, and below it the two parts of a pair
abbrev pub number : Gv → ℕ
number (gnum n) = n
number _ = 0

abbrev pub first : Gv → Gv
first (gcons a b) = a
first _ = gnil

abbrev pub rest : Gv → Gv
rest (gcons a b) = b
rest _ = gnil

abbrev mutual
  pub item_code : DataItem → Gv
  item_code (UnsignedInteger n) = gcons (gnum 0) (gnum n)
  item_code (NegativeInteger n) = gcons (gnum 1) (gnum n)
  item_code (ByteString bytes) = gcons (gnum 2) (string_code.code bytes)
  item_code (TextString bytes) = gcons (gnum 3) (string_code.code bytes)
  item_code (ArrayOf xs) = gcons (gnum 4) (items_code xs)
  item_code (MapOf ps) = gcons (gnum 5) (pairs_code ps)
  item_code (TaggedItem tag x) = gcons (gnum 6) (gcons (gnum tag) (item_code x))
  item_code (Boolean b) = gcons (gnum 7) (coded_bool.code b)
  item_code NullItem = gnil

  pub items_code : DataItems → Gv
  items_code NoItems = gnil
  items_code (ItemThen x xs) = gcons (item_code x) (items_code xs)

  pub pairs_code : DataPairs → Gv
  pairs_code NoPairs = gnil
  pairs_code (PairThen key value ps) =
      gcons (item_code key) (gcons (item_code value) (pairs_code ps))

-- the code is one to one
mutual
  pub item_inj : (x y : DataItem) → item_code x ≡ item_code y → x ≡ y
  item_inj (UnsignedInteger m) (UnsignedInteger n) p = λ i. UnsignedInteger (number (rest (p i)))
  item_inj (NegativeInteger m) (NegativeInteger n) p = λ i. NegativeInteger (number (rest (p i)))
  item_inj (ByteString a) (ByteString b) p = ap ByteString (string_code.inj a b (ap rest p))
  item_inj (TextString a) (TextString b) p = ap TextString (string_code.inj a b (ap rest p))
  item_inj (ArrayOf xs) (ArrayOf ys) p = ap ArrayOf (items_inj xs ys (ap rest p))
  item_inj (MapOf ps) (MapOf qs) p = ap MapOf (pairs_inj ps qs (ap rest p))
  item_inj (TaggedItem m x) (TaggedItem n y) p =
      λ i. TaggedItem (number (first (rest (p i)))) (item_inj x y (ap (λ g. rest (rest g)) p) i)
  item_inj (Boolean a) (Boolean b) p = ap Boolean (coded_bool.inj a b (ap rest p))
  item_inj NullItem NullItem p = refl
  item_inj _ _ p = absurd cc

  pub items_inj : (xs ys : DataItems) → items_code xs ≡ items_code ys → xs ≡ ys
  items_inj NoItems NoItems p = refl
  items_inj (ItemThen x xs) (ItemThen y ys) p =
      λ i. ItemThen (item_inj x y (ap first p) i) (items_inj xs ys (ap rest p) i)
  items_inj _ _ p = absurd cc

  pub pairs_inj : (ps qs : DataPairs) → pairs_code ps ≡ pairs_code qs → ps ≡ qs
  pairs_inj NoPairs NoPairs p = refl
  pairs_inj (PairThen k v ps) (PairThen l w qs) p =
      λ i. PairThen (item_inj k l (ap first p) i) (item_inj v w (ap (λ g. first (rest g)) p) i)
      (pairs_inj ps qs (ap (λ g. rest (rest g)) p) i)
  pairs_inj _ _ p = absurd cc

abbrev pub coded_item : Coded DataItem
coded_item = record { code = item_code; inj = item_inj }

abbrev pub coded_items : Coded (List DataItem)
coded_items = coded_list coded_item

abbrev pub coded_pairs : Coded (List (DataItem × DataItem))
coded_pairs = coded_list (coded× coded_item coded_item)
