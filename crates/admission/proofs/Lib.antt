pub mod Chain
pub mod Judgements
pub mod OneOpening
pub mod OneAdmission
pub mod OneStart
pub mod Refusing
pub mod LentIds
pub mod Exact
