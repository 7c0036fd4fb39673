pub mod UpLemmas
pub mod StepLemmas
pub mod TakingLemmas
pub mod CallLemmas
