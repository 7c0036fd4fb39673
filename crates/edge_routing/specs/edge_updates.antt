pub mod Inclusive
pub mod Tunnels
pub mod Changed
