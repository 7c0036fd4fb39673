pub mod CopiesData
pub mod Kept
pub mod Fading
