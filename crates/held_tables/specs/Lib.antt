pub mod Holding
pub mod Joins
pub mod Starting
