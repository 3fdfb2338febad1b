pub mod Copies
pub mod Making
pub mod Turns
pub mod Swapping
pub mod Completion
