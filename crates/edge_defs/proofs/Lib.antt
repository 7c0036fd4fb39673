pub use Rattle.table_laws.proofs as table_laws
pub use Rattle.pim_defs.proofs as pim_defs
pub use Rattle.choice_defs.proofs as choice_defs
pub use Rattle.bgp_messages.proofs as bgp_messages
pub mod PartLemmas
pub mod KeyLemmas
pub mod LeafLemmas
pub mod Example
pub mod LeafSteps
pub mod CoreLemmas
