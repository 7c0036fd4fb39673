pub mod Spelling
pub mod FirstFault
pub mod Reading
