pub mod RowLemmas
pub mod StepLemmas
pub mod TableLemmas
mod ChangeLemmas
mod ToldLemmas
