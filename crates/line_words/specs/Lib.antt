pub mod Words
pub mod Answers
pub mod FaultText
pub mod Forms
pub mod Parts
pub mod Lines
