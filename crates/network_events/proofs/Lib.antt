pub use Rattle.network_acts.proofs.network_laws as network_laws
pub use Rattle.once_laws.proofs.delivery_laws as delivery_laws
mod CallLemmas
mod CostLemmas
mod CustomerLemmas
mod DatagramLemmas
mod DoLemmas
mod EndLemmas
mod EventLemmas
pub mod FlowLemmas
mod FoundLemmas
mod HealLemmas
mod HopLemmas
pub mod KeptLemmas
mod LoopLemmas
mod MeetLemmas
mod NodeLemmas
mod PlaceLemmas
mod RowLemmas
mod SettleLemmas
mod TurnLemmas
mod LinkLemmas
mod RunLemmas
mod BehindLemmas
pub mod ScriptLemmas
mod StepLemmas
mod LendingLemmas
