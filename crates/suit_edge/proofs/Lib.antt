pub mod FileTables
mod Losses
pub mod MemoryImages
pub mod Moments
mod EveryDisk
pub mod Asked
