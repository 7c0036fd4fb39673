pub use Rattle.network_laws.specs.bgp_values as bgp_values
pub mod Labels
pub mod Edges
pub mod Networks
pub mod Tables
pub mod Honest
pub mod Outs
pub mod SoundHalt
pub mod Throughout
