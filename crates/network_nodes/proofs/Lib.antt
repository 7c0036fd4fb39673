pub use Rattle.wire_laws.proofs as wire_laws
pub use Rattle.edge_core.proofs.node_laws as node_laws
pub mod AnswerLemmas
mod OctetLemmas
pub mod NodeLemmas
