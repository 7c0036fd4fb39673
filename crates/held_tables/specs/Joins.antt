-- The joins of an edge's flows, key by key (RFC 6514 section 11.1.3).
use Rattle.std.specs.Prelude.{◌≡◌, ℕ, List, [], ◌∷◌, ◌++◌, option_map, Option, None, Some}
use Rattle.std.specs.List.{flat_map}
use Rattle.std.specs.FinMap as maps
use Rattle.std.specs.FinMap.{FinMap, get}
use Rattle.mv_base.specs.Lists.{Among}
use Rattle.mv_base.specs.Number.{◌>>?◌, only_if}
use Rattle.mv_base.specs.declared.ids.NodeId.{NodeId}
use Rattle.mv_base.specs.declared.ids.VrfId.{VrfId}
use Rattle.mv_base.specs.declared.rd.Rd.{Rd}
use Rattle.bgp_messages.specs.declared.bgp_attributes.key.Key.{Key}
use Rattle.bgp_messages.specs.bgp_update.Written.{afi_of}
use Rattle.vrf_words.specs.declared.tree_defs.flow.Flow.{Flow}
use Rattle.vrf_words.specs.tree_defs.Flows.{upstream_of}
use Rattle.edge_defs.specs.Edge.{Control, Import, Remote, Upstream, VrfFlow, flow_cmp}
use Rattle.edge_defs.specs.Held.{held_for}
use Rattle.edge_defs.specs.Keys.{Value}
use Rattle.edge_defs.specs.Originated.{import_target}
use Rattle.edge_defs.specs.Place.{EdgePlace, own_addr}
use Rattle.edge_tables.specs.Tables.{PeerTable, Tables}
use Rattle.vrf_words.specs.tree_laws.Joins.{is_join_to, join_key, join_value}
use Rattle.vrf_words.specs.tree_laws.TreeOf.{choice_of, flow_in}

-- ---- what flows say

abbrev pub with_flows : Control → FinMap flow_cmp (Option Upstream) → Control
with_flows control flows = record control { flows = flows }

-- what a flow that is there with such an upstream has of the join at the peer with that RD and Source AS
abbrev pub join_to : EdgePlace → NodeId → Rd → ℕ → Option (Option Upstream) → Option Value
join_to place peer rd source_as up =
    upstream_of (option_map choice_of up) >>? λ found. only_if (is_join_to peer rd source_as found) (join_value place found)

-- the value of a join, which names the VRF of the upstream
abbrev pub value_towards : EdgePlace → Import → Value
value_towards place import = record { next_hop = own_addr place; comms = import_target import ∷ []; pmsi = None }

-- At each peer, RD and Source AS that are not listed with a flow, the flow of each VRF has of that join what it had.
abbrev pub AreOthersAlike : EdgePlace → Control → Control → List (NodeId × Key) → Type 0
AreOthersAlike place old new but =
    (peer : NodeId) (rd : Rd) (source_as : ℕ) (flow : Flow) → ¬ (Among (peer, join_key (afi_of flow.source) rd source_as flow) but) →
    (vrf : VrfId) →
    join_to place peer rd source_as (get new.flows (flow_in vrf flow)) ≡ join_to place peer rd source_as (get old.flows (flow_in vrf flow))

-- the peer and the key of the join of a flow with that upstream
abbrev pub joins_at : VrfFlow → Option (Option Upstream) → List (NodeId × Key)
joins_at flow (Some (Some (Remote edge rd import source_as))) =
    (edge, join_key (afi_of flow.source) rd source_as (record { source = flow.source; group = flow.group })) ∷ []
joins_at flow other = []

-- those of these flows, as their upstreams were and as they are
abbrev pub joins_of_changed : Control → Control → List VrfFlow → List (NodeId × Key)
joins_of_changed old new changed = flat_map (λ flow. joins_at flow (get old.flows flow) ++ joins_at flow (get new.flows flow)) changed

-- ---- what tables hold on the way

-- Each peer is to have what the edge holds for it, but at the keys that are still to be changed.
pub record HoldAllBut (place : EdgePlace) (control : Control) (but : List (NodeId × Key)) (tables : Tables) : Type 0 where
  pub elsewhere : (peer : NodeId) (table : PeerTable) (key : Key) → get tables peer ≡ Some table → ¬ (Among (peer, key) but) →
      maps.get table.set key ≡ maps.get (held_for place control peer) key
