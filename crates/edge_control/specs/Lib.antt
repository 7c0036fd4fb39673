pub use Rattle.edge_tables.specs as edge_tables
pub use Rattle.vrf_trees.specs as vrf_trees
pub mod Sound
pub mod Taking
pub mod Places
pub mod Start
pub mod Timers
pub mod Refreshing
