pub use Rattle.mv_base.specs as mv_base
pub mod mldp_fec
pub mod mldp_msgs
