pub use Rattle.growth_laws.specs as growth_laws
pub mod MadeScript
