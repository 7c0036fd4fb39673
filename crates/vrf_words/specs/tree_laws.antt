pub mod TreeOf
pub mod Whole
pub mod Wanting
pub mod Joined
pub mod Imports
pub mod Joins
pub mod Refreshed
