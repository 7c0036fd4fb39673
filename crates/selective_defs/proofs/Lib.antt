pub mod PartLemmas
pub mod PatternLemmas
pub mod NumberLemmas
pub mod TransmittedLemmas
pub mod WantedLemmas
pub mod Example
