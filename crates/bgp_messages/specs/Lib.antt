pub use Rattle.bgp_values.specs as bgp_values
pub mod bgp_attributes
pub mod bgp_update
