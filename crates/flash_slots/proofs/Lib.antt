mod Outcomes
pub mod Stored
pub mod Whole
pub mod Since
pub mod Over
pub mod Room
mod Rams
