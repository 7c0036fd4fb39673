pub mod OrderLemmas
pub mod BestLemmas
pub mod HashLemmas
pub mod ChoiceLemmas
pub mod HomeLemmas
pub mod Example
