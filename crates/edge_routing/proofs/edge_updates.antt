pub mod ListLemmas
pub mod TunnelLemmas
pub mod TakenLemmas
