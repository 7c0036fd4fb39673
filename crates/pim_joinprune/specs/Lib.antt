pub mod Families
pub mod Fields
pub mod Reading
pub mod Checksums
pub mod Spelling
pub mod FirstFault
pub mod Answers
