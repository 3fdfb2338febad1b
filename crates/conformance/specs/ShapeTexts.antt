-- The texts of the descriptions of shapes.
use Rattle.std.specs.Prelude.{◌≡◌, ℕ, List, Some}
use Rattle.serde_json.specs.Data.{Data}
use Rattle.serde_json.specs.Read.{read}
use Rattle.conformance.specs.declared.shape.Shape.{Shape}
use Rattle.conformance.specs.Shapes.{shape_data, with_sequence}

-- the text spells the shape's description, but for the sequence number
pub record IsTextOf (shape : Shape) (text : List ℕ) : Type 0 where
  pub value : Data
  pub spells : read text ≡ Some value
  pub described : (sequence : ℕ) → with_sequence sequence value ≡ shape_data shape sequence
