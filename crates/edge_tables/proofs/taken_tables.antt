pub mod KeyLemmas
pub mod MapLemmas
pub mod SpelledLemmas
pub mod WaitLemmas
pub mod TunnelLemmas
