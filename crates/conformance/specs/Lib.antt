pub mod Draws
pub mod Shapes
pub mod ShapeTexts
pub mod Drawing
pub mod Rounds
pub mod ShapeLaws
pub mod Vectors
