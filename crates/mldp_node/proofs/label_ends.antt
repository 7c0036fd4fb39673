pub mod NodeMaps
pub mod Counts
