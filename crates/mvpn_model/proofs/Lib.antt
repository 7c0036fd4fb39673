pub mod HomeLemmas
pub mod ListLemmas
pub mod LongestLemmas
pub mod ReadyLemmas
pub mod SessionLemmas
pub mod TicksLemmas
pub mod VpnLemmas
