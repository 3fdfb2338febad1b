pub mod Noting
pub mod Standing
pub mod ViewDisk
