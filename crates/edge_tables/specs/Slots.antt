-- How the slots of peers make the tables.
use Rattle.std.specs.Prelude.{◌≡◌, ◌==◌, ⊤, ℕ, Bool, List, [], map, if◌then◌else◌}
use Rattle.std.specs.List.{All}
use Rattle.std.specs.FinMap.{from_entries}
use Rattle.mv_base.specs.declared.ids.NodeId.{NodeId}
use Rattle.edge_tables.specs.rib_sync.Ribs.{RibOut, rib_out}
use Rattle.edge_defs.specs.Keys.{Value, key_cmp}
use Rattle.edge_tables.specs.Tables.{PeerTable, Tables, pending}
use Rattle.edge_tables.specs.declared.slot.Slot.{Slot}
use Rattle.edge_tables.specs.declared.tables.Activity.{Activity}
use Rattle.edge_tables.specs.declared.tables.Activity.TheVariants.{Unknown, Put, Silent}

-- what is kept, by the table and the octets
abbrev pub of_rib : RibOut key_cmp Value → List ℕ → PeerTable
of_rib rib waiting = record { up = rib.up; set = rib.set; told = rib.sent; waiting = waiting }

abbrev pub peer_table : Slot → PeerTable
peer_table slot = of_rib (rib_out key_cmp slot.table) slot.waiting

abbrev pub is_of : NodeId → Slot → Bool
is_of peer slot = peer.0 == slot.peer.0

-- of several slots of one peer the first one counts
abbrev pub tables_of : List Slot → Tables
tables_of slots = from_entries (map (λ slot. (slot.peer, peer_table slot)) slots)

-- a slot before and after
abbrev pub Becomes : (PeerTable → PeerTable → Type 0) → Slot → Slot → Type 0
Becomes Is old new = (new.peer ≡ old.peer) × Is (peer_table old) (peer_table new)

-- the peer was sent all that it is to have
pub record IsPut (table : PeerTable) : Type 0 where
  pub none : pending table ≡ []
  pub sent : (if table.up then table.set else table.told) ≡ table.told

abbrev pub IsPutAt : Slot → Type 0
IsPutAt slot = IsPut (peer_table slot)

-- nothing waits for the peer
abbrev pub IsSilentAt : Slot → Type 0
IsSilentAt slot = slot.waiting ≡ []

-- what is known of the slots holds of each
abbrev pub HasActivity : Activity → List Slot → Type 0
HasActivity Unknown slots = ⊤
HasActivity Put slots = All IsPutAt slots
HasActivity Silent slots = All IsPutAt slots × All IsSilentAt slots
