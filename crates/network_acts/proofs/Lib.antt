pub use Rattle.network_laws.proofs as network_laws
pub use Rattle.network_nodes.proofs.wire_laws as wire_laws
pub use Rattle.run_laws.proofs as run_laws
mod PlaneActs
pub mod CopyActs
mod Told
pub mod Handed
