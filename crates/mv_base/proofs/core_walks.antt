pub mod WalkLemmas
pub mod ReachedLemmas
pub mod CostLemmas
