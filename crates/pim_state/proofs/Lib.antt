pub mod MapLemmas
pub mod ChangesLemmas
pub mod PlanLemmas
pub mod IndexLemmas
pub mod EndLemmas
