pub use Rattle.label_defs.proofs as label_defs
pub use Rattle.edge_defs.proofs as edge_defs
pub mod Members
pub mod Flows
pub mod Leaves
pub mod Goes
pub mod Quiet
pub mod Numbers
pub mod Known
pub mod Prefixes
