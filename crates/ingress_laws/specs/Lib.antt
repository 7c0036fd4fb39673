pub mod Meaning
pub mod Answered
pub mod Refused
