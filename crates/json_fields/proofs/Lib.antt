pub mod Escapes
pub mod Folds
mod FoundParts
