pub mod RootLemmas
mod PeerLemmas
mod RoleLemmas
mod TellLemmas
