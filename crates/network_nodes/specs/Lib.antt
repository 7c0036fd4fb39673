pub use Rattle.wire_laws.specs as wire_laws
pub use Rattle.edge_streams.specs as edge_streams
pub use Rattle.edge_core.specs.node_laws as node_laws
pub mod NodeView
pub mod Answers
pub mod Network
pub mod Edges
pub mod Faults
pub mod core_node
