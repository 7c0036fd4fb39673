pub mod Kept
pub mod Ribs
