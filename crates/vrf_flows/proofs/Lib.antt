pub use Rattle.pim_state.proofs as pim_state
pub mod FlowLemmas
pub mod StaleLemmas
pub mod TreeLemmas
pub mod SetLemmas
pub mod StateLemmas
pub mod CostLemmas
pub mod EntryLemmas
pub mod CoverLemmas
pub mod NamedLemmas
pub mod MarkLemmas
