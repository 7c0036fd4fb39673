pub mod Concerns
pub mod Reported
pub mod Room
