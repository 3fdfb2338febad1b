pub mod SameIdentifiers
pub mod Elements
pub mod ViewAnswers
