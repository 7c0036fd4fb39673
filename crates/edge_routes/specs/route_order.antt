pub mod Values
pub mod Compared
pub mod Front
pub mod Kept
