pub mod Texts
pub mod Cutting
pub mod Reading
