-- The elements of a value.
use Rattle.std.specs.Prelude.{Option, Some, None, unwrap_or}
use Rattle.serde_json.specs.Data.{Data, Items, no_items, item}
use Rattle.serde_json.specs.Find.{as_array}

-- the elements of an array, or none for any other value
abbrev pub items_in : Data → Items
items_in d = unwrap_or (as_array d) no_items

-- the elements of a list of exactly two
abbrev pub pair_in : Items → Option (Data × Data)
pair_in (item a (item b no_items)) = Some (a, b)
pair_in _ = None
