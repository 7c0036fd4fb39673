pub mod HoldLemmas
pub mod Witness
pub mod JoinLemmas
pub mod StartLemmas
pub mod PrefixLemmas
pub mod RunLemmas
