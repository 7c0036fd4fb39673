pub mod Folds
pub mod Members
pub mod Idle
pub mod Receivers
pub mod Counterparts
pub mod Room
pub mod Runs
