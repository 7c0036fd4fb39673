pub mod Control
pub mod Customers
pub mod Peers
pub mod Between
pub mod Start
pub mod group_laws
