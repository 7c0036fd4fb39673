pub mod Puts
pub mod EdgeState
