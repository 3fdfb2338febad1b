pub mod BlockLemmas
pub mod Calm
pub mod Commit
pub mod Direct
pub mod Filling
pub mod Fronts
pub mod NameSteps
pub mod NamedRead
mod NorLosses
pub mod NorSteps
pub mod Pieces
pub mod Progress
pub mod Quiet
pub mod Replacement
pub mod Rewriting
pub mod Steadiness
pub mod Written
