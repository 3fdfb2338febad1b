pub mod Exchanges
pub mod CopyLaws
pub mod Progress
pub mod Swaps
