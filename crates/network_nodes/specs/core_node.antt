pub mod View
pub mod Answers
pub mod Called
pub mod Taking
