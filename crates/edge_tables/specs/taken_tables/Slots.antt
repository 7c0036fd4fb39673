-- How the maps of the code make the tables.
use Rattle.std.specs.Prelude.{ℕ, List, map}
use Rattle.std.specs.FinMap.{from_entries}
use Rattle.mv_base.specs.declared.ids.NodeId.{NodeId}
use Rattle.bgp_messages.specs.declared.bgp_attributes.key.Key.{Key}
use Rattle.edge_tables.specs.rib_sync.Ribs.{rib_in}
use Rattle.edge_defs.specs.Edge.{Taken, TakenRoute}
use Rattle.edge_defs.specs.Keys.{key_cmp}
use Rattle.edge_tables.specs.taken_tables.Tables.{Tables}

-- the routes of a table, in the order of their keys
abbrev pub Rows : Type 0
Rows = List (Key × TakenRoute)

abbrev pub taken_in : Rows → Taken
taken_in rows = rib_in key_cmp rows

abbrev pub slot_of : ℕ × Rows → NodeId × Taken
slot_of slot = (record { 0 = slot.0 }, taken_in slot.1)

abbrev pub tables_of : List (ℕ × Rows) → Tables
tables_of slots = from_entries (map slot_of slots)
