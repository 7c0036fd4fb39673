pub use Rattle.mldp.specs as mldp
pub mod Selective
pub mod Parts
pub mod Example
