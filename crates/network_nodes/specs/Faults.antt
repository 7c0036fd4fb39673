-- Why a call of a node was not made.
pub use Rattle.edge_core.specs.declared.fault.EdgeFault.{EdgeFault}
pub use Rattle.edge_core.specs.declared.fault.EdgeFault.TheVariants.{Full, NoLabel, NoMemory, NotOurs, Pim, Session}
