-- Lists of elements, one before the other.
use Rattle.serde_json.specs.Data.{Items, no_items, item}

abbrev pub joined : Items → Items → Items
joined no_items more = more
joined (item d ds) more = item d (joined ds more)
