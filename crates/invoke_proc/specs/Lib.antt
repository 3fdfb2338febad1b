pub mod Counting
pub mod Starting
pub mod Banks
pub mod Buffers
pub mod BootLaws
pub mod Booting
pub mod Sound
pub mod Writing
