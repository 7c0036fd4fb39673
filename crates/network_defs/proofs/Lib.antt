pub use Rattle.edge_defs.proofs as edge_defs
pub use Rattle.mvpn_model.proofs as mvpn_model
pub use Rattle.label_defs.proofs as label_defs
pub mod CostLemmas
pub mod OneRun
pub mod Nothing
pub mod Idle
pub mod Small
pub mod Readings
pub mod Comings
pub mod Example
pub mod Kept
pub mod Numbered
