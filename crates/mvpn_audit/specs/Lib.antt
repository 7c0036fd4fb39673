pub use Rattle.audit_events.specs.Marking
pub mod Exits
pub mod Missing
pub mod Findings
pub mod Judging
