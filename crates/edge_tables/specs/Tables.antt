-- What an edge has sent each of its peers and is to send it (RFC 4271 sections 3.2 and 9.1.3).
use Rattle.std.specs.Prelude.{◌≡◌, ◌≢◌, ◌++◌, ◌⊎◌, ⊤, ℕ, Bool, true, false, List, [], take, is_some, refl}
use Rattle.std.specs.Prelude.{Option, None, Some, if◌then◌else◌}
use Rattle.std.specs.List.{flat_map}
use Rattle.std.specs.Coded.{Coded, code_by, coded×, coded_bool, coded_list, coded_option, coded_ℕ}
use Rattle.std.specs.FinMap as maps
use Rattle.std.specs.FinMap.{FinMap, empty, get, insert, remove}
use Rattle.mv_base.specs.declared.addr.Addr.{Addr}
use Rattle.mv_base.specs.contracts.addr.Addr as addrs
use Rattle.mv_base.specs.declared.ids.NodeId.{NodeId}
use Rattle.mv_base.specs.contracts.ids.NodeId as nodes
use Rattle.bgp_values.specs.declared.pmsi_attr.pmsi.Pmsi.{Pmsi}
use Rattle.bgp_values.specs.contracts.pmsi_attr.pmsi.Pmsi as pmsis
use Rattle.mv_base.specs.declared.route_targets.communities.ExtComm.{ExtComm}
use Rattle.mv_base.specs.contracts.route_targets.communities.ExtComm as comms
use Rattle.bgp_messages.specs.declared.bgp_attributes.key.Key.{Key}
use Rattle.bgp_messages.specs.contracts.bgp_attributes.key.Key as keys
use Rattle.bgp_messages.specs.declared.bgp_attributes.update.Advert.{Advert}
use Rattle.bgp_messages.specs.bgp_update.Written.{written}
use Rattle.mv_base.specs.declared.table_defs.change.Change.{Change}
use Rattle.mv_base.specs.table_defs.Changes.{changes}
use Rattle.label_defs.specs.Keys.{node_cmp}
use Rattle.edge_defs.specs.Edge.{Control}
use Rattle.edge_defs.specs.Held.{held_for, told}
use Rattle.edge_defs.specs.Keys.{Table, Value, same_value}
use Rattle.edge_defs.specs.Messages.{as_update}
use Rattle.edge_defs.specs.Place.{EdgePlace}

-- ---- tables

-- what is kept towards a peer: whether the end of the session is up, the routes that the peer is to have, those that it was sent, and
-- the octets that wait for it
pub record PeerTable : Type 0 where
  pub up : Bool
  pub set : Table
  pub told : Table
  pub waiting : List ℕ

abbrev pub Tables : Type 0
Tables = FinMap node_cmp PeerTable

-- the session is down, and there is no route
abbrev pub fresh : PeerTable
fresh = record { up = false; set = empty; told = empty; waiting = [] }

-- the peer is to have the route, and to have none of the key
abbrev pub with_route : Key → Value → PeerTable → PeerTable
with_route key value table = record table { set = insert table.set key value }

abbrev pub without_route : Key → PeerTable → PeerTable
without_route key table = record table { set = remove table.set key }

-- the end is up, with nothing sent; and it is down, with nothing sent and nothing waiting
abbrev pub raised : PeerTable → PeerTable
raised table = record table { up = true; told = empty }

abbrev pub downed : PeerTable → PeerTable
downed table = record table { up = false; told = empty; waiting = [] }

-- the changes that the peer is still to be sent: none while the end is down
abbrev pub pending : PeerTable → List (Change Key Value)
pending table = if table.up then changes same_value table.told table.set else []

-- an UPDATE message for each change
abbrev pub texts : List (Change Key Value) → List ℕ
texts list = flat_map (λ change. written (as_update change)) list

-- once the peer is sent them
abbrev pub put_after : PeerTable → PeerTable
put_after table = record table {
  told = if table.up then table.set else table.told;
  waiting = table.waiting ++ texts (pending table);
}

-- the messages of some first ones of the changes were appended
abbrev pub IsFront : List (Change Key Value) → List ℕ → List ℕ → Type 0
IsFront list old new = (count : ℕ) × (new ≡ old ++ texts (take count list))

-- nothing was put, or what was pending is sent, with the messages of some first ones of these changes
abbrev pub IsPutPart : PeerTable → PeerTable → Type 0
IsPutPart old new =
    (new ≡ old) ⊎ ((octets : List ℕ) × IsFront (pending old) old.waiting octets × (new ≡ record (put_after old) { waiting = octets }))

-- ---- before and after

-- both are there and related, or neither is there
abbrev pub Both : {A B : Type 0} → (A → B → Type 0) → Option A → Option B → Type 0
Both Is None None = ⊤
Both Is None (Some new) = ⊥
Both Is (Some old) None = ⊥
Both Is (Some old) (Some new) = Is old new

-- the tables of each peer before and after are so related
abbrev pub EachPeer : (PeerTable → PeerTable → Type 0) → Tables → Tables → Type 0
EachPeer Is old new = (peer : NodeId) → Both Is (get old peer) (get new peer)

-- those of this peer are, and those of each other peer stay as they are
abbrev pub AtPeer : NodeId → (PeerTable → PeerTable → Type 0) → Tables → Tables → Type 0
AtPeer peer Is old new =
    Both Is (get old peer) (get new peer) × ((other : NodeId) → other ≢ peer → get new other ≡ get old other)

-- ---- what is sent of a peer

abbrev pub up_of : Option PeerTable → Bool
up_of None = false
up_of (Some table) = table.up

abbrev pub waiting_of : Option PeerTable → List ℕ
waiting_of None = []
waiting_of (Some table) = table.waiting

abbrev pub is_up_at : Tables → NodeId → Bool
is_up_at tables peer = up_of (get tables peer)

abbrev pub waiting_at : Tables → NodeId → List ℕ
waiting_at tables peer = waiting_of (get tables peer)

-- the route that is announced
abbrev pub advert_of : Key → Value → Advert
advert_of key value = record { key = key; next_hop = value.next_hop; comms = value.comms; pmsi = value.pmsi }

-- ---- by the data of the edge

-- The table is what the edge holds by the new data, and what was sent is that by the old data; while the end is down nothing is.
pub record IsBetween (place : EdgePlace) (old new : Control) (peer : NodeId) (table : PeerTable) : Type 0 where
  pub up : table.up ≡ is_some (get new.peers peer)
  pub set : table.set ≡ held_for place new peer
  pub told : table.told ≡ (if table.up then told place old peer else empty)

-- ---- codes

abbrev value_code : Coded Value
value_code =
    code_by (Addr × (List ExtComm × Option Pmsi))
    (coded× addrs.the_row.coded (coded× (coded_list comms.the_row.coded) (coded_option pmsis.the_row.coded)))
    (λ v. (v.next_hop, (v.comms, v.pmsi))) (λ p. record { next_hop = p.0; comms = p.1.0; pmsi = p.1.1 }) (λ _. refl)

abbrev table_code : Coded PeerTable
table_code =
    code_by (Bool × (Table × (Table × List ℕ)))
    (coded× coded_bool (coded× (maps.code keys.the_row.coded value_code)
    (coded× (maps.code keys.the_row.coded value_code) (coded_list coded_ℕ))))
    (λ t. (t.up, (t.set, (t.told, t.waiting)))) (λ p. record { up = p.0; set = p.1.0; told = p.1.1.0; waiting = p.1.1.1 }) (λ _. refl)

abbrev pub tables_code : Coded Tables
tables_code = maps.code nodes.the_row.coded table_code
