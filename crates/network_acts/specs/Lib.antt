pub use Rattle.network_laws.specs as network_laws
pub use Rattle.network_nodes.specs.wire_laws as wire_laws
pub use Rattle.run_laws.specs as run_laws
pub mod NetworkView
pub mod Instant
pub mod Acting
pub mod Customers
pub mod Handling
pub mod Words
pub mod control_plane
