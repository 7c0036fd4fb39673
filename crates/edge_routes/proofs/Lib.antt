pub mod FoundLemmas
pub mod ValueLemmas
