pub mod Words
pub mod Fields
pub mod Spelling
pub mod FirstFault
pub mod Reading
pub mod File
pub mod Answers
