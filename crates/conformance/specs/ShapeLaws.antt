-- The law of shapes.
use Rattle.std.specs.Prelude.{◌<◌, ◌^◌, ℕ}
use Rattle.author.specs.Faults.{IsDescription}
use Rattle.conformance.specs.declared.shape.Shape.{Shape}
use Rattle.conformance.specs.Shapes.{shape_data}

-- each shape is a description, with any sequence number
abbrev pub ShapeLaws : Type 0
ShapeLaws = (shape : Shape) (sequence : ℕ) → sequence < 2 ^ 64
    → IsDescription (shape_data shape sequence)
