pub mod link_copies
pub mod datagram_acts
