pub mod RowLemmas
pub mod ChangeLemmas
