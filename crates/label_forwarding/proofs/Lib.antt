pub use Rattle.label_defs.proofs as label_defs
pub mod OctetLemmas
pub mod TestLemmas
pub mod FourLemmas
pub mod SixLemmas
pub mod PacketLemmas
pub mod WrittenLemmas
pub mod HopLemmas
pub mod SlotLemmas
pub mod FibLemmas
pub mod KnownLemmas
pub mod NoteLemmas
pub mod StepLemmas
pub mod OpLemmas
