pub use Rattle.mv_base.specs as mv_base
pub mod Vpn
pub mod Home
pub mod Names
pub mod Prefixes
pub mod Rules
pub mod Text
pub mod Kinds
