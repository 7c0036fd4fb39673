pub use Rattle.rule_laws.proofs as rule_laws
pub mod SoundEvents
pub mod Halting
pub mod Plain
pub mod Ready
