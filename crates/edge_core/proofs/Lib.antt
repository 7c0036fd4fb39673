pub use Rattle.node_laws.proofs as node_laws
pub use Rattle.edge_routing.proofs.control_laws as control_laws
pub mod PeerLemmas
pub mod UpLemmas
pub mod StepLemmas
pub mod SessionLemmas
pub mod SelectionLemmas
pub mod HandedLemmas
pub mod TakingLemmas
pub mod FateLemmas
pub mod DueLemmas
pub mod FirstLemmas
pub mod CallLemmas
pub mod TreeLemmas
pub mod ListedLemmas
