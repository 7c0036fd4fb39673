pub mod DatagramsView
pub mod Stored
