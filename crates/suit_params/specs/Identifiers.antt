-- The spelling of component identifiers (draft-ietf-suit-manifest-25, section 8.4.5): arrays of byte strings.
use Rattle.std.specs.Prelude.{ℕ, List, [], ◌∷◌}
use Rattle.det_cbor.specs.DataItem.{DataItem, ByteString, ArrayOf, DataItems, NoItems, ItemThen, spell}

abbrev pub string_items : List (List ℕ) → DataItems
string_items [] = NoItems
string_items (part ∷ parts) = ItemThen (ByteString part) (string_items parts)

abbrev pub identifier_item : List (List ℕ) → DataItem
identifier_item parts = ArrayOf (string_items parts)

abbrev pub identifier_items : List (List (List ℕ)) → DataItems
identifier_items [] = NoItems
identifier_items (id ∷ ids) = ItemThen (identifier_item id) (identifier_items ids)

unfoldable pub spelled_id : List (List ℕ) → List ℕ
spelled_id parts = spell (identifier_item parts)
