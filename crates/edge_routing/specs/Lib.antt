pub use Rattle.edge_streams.specs as edge_streams
pub use Rattle.edge_labels.specs as edge_labels
pub use Rattle.edge_control.specs.edge_tables as edge_tables
pub use Rattle.control_laws.specs as control_laws
pub use Rattle.vrf_words.specs as vrf_words
pub use Rattle.edge_control.specs as edge_control
pub mod Routing
pub mod edge_datagrams
pub mod edge_updates
pub mod edge_joins
