pub use Rattle.edge_defs.specs as edge_defs
pub mod Places
pub mod Rows
pub mod Waits
pub mod Parts
pub mod leaf_laws
