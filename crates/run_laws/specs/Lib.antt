pub use Rattle.rule_laws.specs as rule_laws
pub mod Octets
pub mod Runs
pub mod Plain
pub mod Ready
pub mod line_laws
