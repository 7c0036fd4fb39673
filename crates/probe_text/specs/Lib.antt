pub use Rattle.probe_defs.specs as probe_defs
pub mod Grammar
