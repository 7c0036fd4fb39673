pub use Rattle.pim_defs.specs as pim_defs
pub mod Held
pub mod Stale
pub mod Sight
pub mod Plan
pub mod State
pub mod Codes
