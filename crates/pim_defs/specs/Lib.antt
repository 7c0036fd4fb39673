pub use Rattle.pim_joinprune.specs as pim_joinprune
pub mod Expiry
pub mod Mention
pub mod Asking
pub mod Entries
pub mod Single
