pub mod TableLemmas
pub mod HoldLemmas
pub mod ListLemmas
pub mod StepLemmas
pub mod SeenLemmas
pub mod LossLemmas
pub mod TowardLemmas
