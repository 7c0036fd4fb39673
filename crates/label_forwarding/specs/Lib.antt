pub use Rattle.label_defs.specs as label_defs
pub mod Spelling
pub mod FirstFault
pub mod Reading
pub mod Written
pub mod Hops
pub mod FibData
pub mod Slots
