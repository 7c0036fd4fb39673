pub mod KeyLemmas
pub mod EntriesLemmas
pub mod SingleLemmas
