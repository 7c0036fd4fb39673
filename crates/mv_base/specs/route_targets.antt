pub mod Targets
pub mod Padding
pub mod Communities
