-- Lemmas of the crates below that the events of a network need.
pub use Rattle.network_acts.proofs.control_plane.EndLemmas.{raise_has, session_itself}
pub use Rattle.data_plane.proofs.link_copies.Holders.{two_copies}
pub use Rattle.data_plane.proofs.datagram_acts.Pooled.{has_held, is_named}
