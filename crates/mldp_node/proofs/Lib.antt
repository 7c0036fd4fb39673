pub use Rattle.label_trees.proofs as label_trees
pub mod PartLemmas
pub mod CoreLemmas
pub mod SpelledLemmas
pub mod WaitLemmas
pub mod SettleLemmas
pub mod StepLemmas
pub mod NodeLemmas
