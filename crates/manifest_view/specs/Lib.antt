pub mod LentParts
pub mod Lending
pub mod Views
