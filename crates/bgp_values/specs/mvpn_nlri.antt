pub mod Bounds
pub mod Spelling
pub mod FirstFault
pub mod Reading
