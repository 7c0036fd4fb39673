pub use Rattle.scenario_defs.specs as scenario_defs
pub mod Choice
pub mod Example
