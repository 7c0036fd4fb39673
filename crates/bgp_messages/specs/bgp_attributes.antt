pub mod Spelling
pub mod FirstFault
pub mod Reading
pub mod Answers
