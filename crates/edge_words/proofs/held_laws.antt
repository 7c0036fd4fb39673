pub mod Originated
pub mod Changed
pub mod Calls
