pub mod ShapeValues
pub mod ShapesRead
pub mod States
pub mod FilesNamed
