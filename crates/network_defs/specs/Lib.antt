pub use Rattle.edge_defs.specs as edge_defs
pub use Rattle.mvpn_model.specs as mvpn_model
pub mod Costs
pub mod Nodes
pub mod System
pub mod World
pub mod Counts
pub mod Refusals
pub mod Acts
pub mod Events
pub mod Run
pub mod Local
pub mod LabelRule
pub mod Example
pub mod session_defs
pub mod node_defs
