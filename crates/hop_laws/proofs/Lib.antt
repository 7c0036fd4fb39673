pub use Rattle.run_laws.proofs as run_laws
pub mod Alive
pub mod Events
pub mod Labels
pub mod Octets
pub mod Hops
pub mod Runs
pub mod Ends
pub mod Sent
