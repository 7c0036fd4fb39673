pub use Rattle.edge_defs.specs as edge_defs
pub mod Lines
pub mod Imports
pub mod Probed
pub mod Given
