pub use Rattle.edge_streams.proofs as edge_streams
pub use Rattle.edge_labels.proofs as edge_labels
pub use Rattle.control_laws.proofs as control_laws
pub use Rattle.edge_words.proofs as edge_words
pub mod Between
pub mod Leaves
pub mod Finish
pub mod Flows
pub mod Calls
pub mod CustomerCalls
pub mod Notes
pub mod PeerNumbers
pub mod PeerCalls
pub mod StillTrees
pub mod Selections
pub mod First
