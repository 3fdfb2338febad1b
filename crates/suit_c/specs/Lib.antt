pub mod Authentic
pub mod Reading
pub mod Recorded
