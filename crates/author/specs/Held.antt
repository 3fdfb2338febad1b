-- The value that a description was read from.
use Rattle.std.specs.Prelude.{◌≡◌}
use Rattle.serde_json.specs.Data.{Data}
use Rattle.serde_json.specs.View.{view}
use Rattle.author.specs.declared.held.Description.{Description}
use Rattle.author.specs.Faults.{IsDescription}

abbrev pub value_of : Description → Data
value_of p = view p.value

-- the description of a value
pub record IsDescriptionOf (d : Data) (p : Description) : Type 0 where
  pub same : value_of p ≡ d
  pub accepted : IsDescription d
