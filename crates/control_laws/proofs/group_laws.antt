pub mod Messages
pub mod Effects
pub mod Refreshes
