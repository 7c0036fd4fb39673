pub mod MarkLemmas
pub mod RouteLemmas
pub mod PlanLemmas
pub mod TableLemmas
pub mod KnownLemmas
pub mod RefreshLemmas
