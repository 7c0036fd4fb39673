pub mod Outcomes
pub mod Sessions
pub mod Copies
pub mod Acts
pub mod Events
