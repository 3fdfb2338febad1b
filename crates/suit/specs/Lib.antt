pub mod CommandLine
pub mod Flashes
