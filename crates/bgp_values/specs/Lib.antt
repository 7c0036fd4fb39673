pub use Rattle.mldp.specs as mldp
pub mod pmsi_attr
pub mod mvpn_nlri
