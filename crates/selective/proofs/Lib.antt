pub mod RootLemmas
pub mod OrderLemmas
pub mod LeafLemmas
pub mod WaitLemmas
