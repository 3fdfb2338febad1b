pub mod Steps
pub mod Numbers
pub mod Strings
pub mod Again
pub mod Escapes
pub mod Answered
pub mod Sizes
