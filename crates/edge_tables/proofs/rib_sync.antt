pub mod ListLemmas
pub mod RibLemmas
pub mod ChangeLemmas
pub mod Replaying
