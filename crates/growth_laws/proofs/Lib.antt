pub use Rattle.edge_words.proofs as edge_words
pub use Rattle.network_laws.proofs as network_laws
mod Counts
mod Turns
mod Calls
mod Leaves
mod Flows
mod Rows
mod Told
mod Homes
mod Entries
mod Effects
mod Within
mod NodeSteps
mod Networks
mod Worlds
mod Musts
mod Runs
mod Starts
mod Tests
