pub mod Devices
pub mod Channels
