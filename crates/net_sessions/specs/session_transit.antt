pub mod TransitData
pub mod Kept
