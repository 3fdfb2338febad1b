pub mod Messages
pub mod PortDisk
