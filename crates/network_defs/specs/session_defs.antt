pub mod Message
pub mod System
pub mod Octets
pub mod PeerSession
pub mod Refined
pub mod Example
