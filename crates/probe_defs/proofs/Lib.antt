pub mod LabelLemmas
pub mod TableLemmas
pub mod StreamLemmas
pub mod StepLemmas
pub mod LineLemmas
