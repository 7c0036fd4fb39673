pub mod TunnelLemmas
pub mod PmsiLemmas
pub mod WritingLemmas
