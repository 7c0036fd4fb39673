pub mod DueLemmas
pub mod InclusiveLemmas
pub mod WantLemmas
