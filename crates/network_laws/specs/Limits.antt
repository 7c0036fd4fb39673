-- How much an edge keeps at most.
use Rattle.std.specs.Prelude.{◌≤◌}
use Rattle.std.specs.FinMap as maps
use Rattle.std.specs.FinSet as sets
use Rattle.mv_base.specs.declared.ids.NodeId.{NodeId}
use Rattle.network_defs.specs.edge_defs.pim_defs.Entries.{entry_limit}
use Rattle.network_defs.specs.edge_defs.Edge.{Control}
use Rattle.network_defs.specs.Refusals.{control_of, note_limit, selection_limit}
use Rattle.network_defs.specs.World.{World}

-- Entries of its interfaces, sources that are noted there, and patterns that its VRFs have selected.
pub record IsWithin (control : Control) : Type 0 where
  pub entries : maps.len control.entries ≤ entry_limit
  pub notes : sets.len control.notes ≤ note_limit
  pub selections : maps.len control.selections ≤ selection_limit

abbrev pub AreWithin : World → Type 0
AreWithin world = (n : NodeId) → IsWithin (control_of (world.network.state.node n))
