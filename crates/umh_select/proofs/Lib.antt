pub mod OrderLemmas
pub mod BestLemmas
pub mod EdgeLemmas
pub mod ChosenLemmas
pub mod RangeLemmas
