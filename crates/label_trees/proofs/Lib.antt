pub mod MapLemmas
pub mod OrderLemmas
pub mod TreeLemmas
pub mod LossLemmas
