pub mod PlaceLemmas
pub mod OctetLemmas
pub mod RowLemmas
pub mod EdgeLemmas
pub mod PeerLemmas
pub mod TakenLemmas
pub mod PartLemmas
