pub mod Hmac
pub mod Algorithms
pub mod Tags
pub mod MacState
pub mod Mac0
pub mod Layout
pub mod Verdict
