pub mod Spelling
pub mod FirstFault
pub mod Shape
pub mod Reading
