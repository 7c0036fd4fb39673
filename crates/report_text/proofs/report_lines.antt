pub mod NumberLemmas
pub mod NameLemmas
pub mod WordLemmas
pub mod FieldLemmas
pub mod LineLemmas
pub mod NamedLemmas
pub mod EndLemmas
pub mod ReadLemmas
