-- The lines of what happened, act by act.
pub use Rattle.delivery_laws.specs.Flood.{lines_in}
