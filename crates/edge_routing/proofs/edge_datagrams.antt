pub mod CoreLemmas
pub mod KeptLemmas
pub mod ImportLemmas
pub mod TunnelLemmas
pub mod LeavingLemmas
