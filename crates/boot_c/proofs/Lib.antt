pub mod Configs
pub mod Ends
pub mod Images
pub mod SlotAnswers
pub mod Without
