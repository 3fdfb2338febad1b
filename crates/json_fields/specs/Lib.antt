pub mod Flaws
pub mod Pointers
pub mod Answers
pub mod Values
pub mod Arrays
pub mod Objects
pub mod Telling
pub mod PointerLaws
