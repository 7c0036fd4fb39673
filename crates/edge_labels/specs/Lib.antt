pub use Rattle.node_laws.specs as node_laws
pub mod Calls
pub mod Changes
