pub use Rattle.bgp_messages.specs as bgp_messages
pub use Rattle.edge_routes.specs as edge_routes
pub use Rattle.node_laws.specs as node_laws
pub use Rattle.edge_routing.specs.edge_control as edge_control
pub mod View
pub mod State
pub mod Answers
pub mod Called
pub mod Calls
pub mod Taking
pub mod Pim
pub mod Listed
