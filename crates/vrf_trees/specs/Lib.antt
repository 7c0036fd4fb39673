pub use Rattle.vrf_flows.specs as vrf_flows
pub mod Wants
pub mod Plan
pub mod Changes
pub mod Joined
pub mod Trees
