pub mod Behind
pub mod Targets
