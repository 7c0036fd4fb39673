pub use Rattle.mldp.specs as mldp
pub mod Keys
pub mod Members
pub mod LabelData
pub mod Between
pub mod Settling
pub mod Steps
pub mod Settled
pub mod Node
pub mod Laws
pub mod Row
