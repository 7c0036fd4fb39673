pub mod CompareLemmas
pub mod TableLemmas
pub mod KeyLemmas
pub mod OrderLemmas
pub mod PendingLemmas
