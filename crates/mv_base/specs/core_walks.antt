pub mod Walks
pub mod Topology
pub mod Costs
pub mod Reached
pub mod Marks
pub mod Core
