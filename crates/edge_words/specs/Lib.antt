pub use Rattle.bgp_messages.specs as bgp_messages
pub use Rattle.label_defs.specs as label_defs
pub use Rattle.edge_defs.specs as edge_defs
pub mod Asked
pub mod Leaf
pub mod Goes
pub mod Quiet
pub mod Known
pub mod edge_laws
pub mod calm_laws
pub mod held_laws
