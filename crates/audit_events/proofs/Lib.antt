pub use Rattle.audit_defs.proofs as audit_defs
pub mod PlacedLemmas
pub mod MarkingLemmas
pub mod ExpiryLemmas
pub mod FollowLemmas
pub mod SetLemmas
pub mod FateLemmas
pub mod MarkedLemmas
pub mod WayLemmas
pub mod WindowLemmas
pub mod StateLemmas
pub mod InWindows
pub mod AskLemmas
pub mod DatagramLemmas
pub mod ReceiverLemmas
pub mod WalkLemmas
