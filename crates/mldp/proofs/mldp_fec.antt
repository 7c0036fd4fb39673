pub mod TlvLemmas
pub mod KindLemmas
pub mod RootLemmas
pub mod OpaqueLemmas
pub mod FecLemmas
pub mod CallLemmas
pub mod SameLemmas
