pub mod BootAnswers
pub mod Images
pub mod SlotAnswers
pub mod SlotsInUse
