pub mod ImportLemmas
pub mod TreeLemmas
pub mod ChangedLemmas
pub mod RefreshedLemmas
pub mod TurnLemmas
