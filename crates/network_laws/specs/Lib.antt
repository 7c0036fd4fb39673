pub use Rattle.bgp_values.specs as bgp_values
pub mod Sound
pub mod Costs
pub mod Limits
pub mod Honest
pub mod SoundRun
