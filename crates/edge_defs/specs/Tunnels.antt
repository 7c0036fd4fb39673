-- The tunnels that an edge transmits on, and those of which it is a leaf (RFC 6514 sections 9.1.2 and 12.3; RFC 6513 section 7).
use Rattle.std.specs.Prelude.{ℕ, ◌==◌, Bool, List, [], ◌++◌, map, Option, None, Some}
use Rattle.std.specs.List.{filter, flat_map, list_any}
use Rattle.std.specs.FinMap as maps
use Rattle.std.specs.FinSet as sets
use Rattle.std.specs.FinSet.{FinSet}
use Rattle.mv_base.specs.declared.addr.Addr.{Addr}
use Rattle.mv_base.specs.declared.ids.NodeId.{NodeId}
use Rattle.mv_base.specs.declared.ids.VrfId.{VrfId}
use Rattle.mv_base.specs.declared.pattern.Pattern.{Pattern}
use Rattle.label_defs.specs.mldp.declared.mldp_fec.fec.Fec.{Fec}
use Rattle.label_defs.specs.Keys.{fec_cmp}
use Rattle.bgp_messages.specs.declared.bgp_attributes.key.Key.{Key}
use Rattle.selective_defs.specs.Selective.{transmitted, wanted}
use Rattle.selective_defs.specs.declared.learned_route.LearnedRoute.{LearnedRoute}
use Rattle.selective_defs.specs.declared.selection.Selection.{Selection}
use Rattle.edge_defs.specs.Edge.{VrfPattern, Selected, VrfFlow, Upstream, Remote, TakenRoute, Taken, Control}
use Rattle.edge_defs.specs.Flows.{same_flow}
use Rattle.edge_defs.specs.Imported.{found_in, taken_from, imported_inclusive, imported_selective, imported_join}
use Rattle.edge_defs.specs.Place.{EdgePlace, OwnVrf, addr_of, own_addr, own_vrfs, lsp, tunnel_number}

-- ---- at a root

-- the selections of a VRF
abbrev pub selection_of : VrfPattern × Selected → Selection
selection_of entry = record { pattern = entry.0.pattern; number = entry.1.number; since = entry.1.since; run = entry.1.run }

abbrev pub selections_of : Control → VrfId → List Selection
selections_of control vrf =
    map selection_of (filter (λ (entry : VrfPattern × Selected). entry.0.vrf.0 == vrf.0) (maps.entries control.selections))

-- the number that a selection adds to that of the VRF, and 0 for the inclusive tunnel
abbrev pub number_by : Option Selection → ℕ
number_by None = 0
number_by (Some selection) = selection.number

-- the tunnel on which the edge transmits (S,G) of a VRF
abbrev pub transmit_tunnel : EdgePlace → Control → OwnVrf → Addr → Addr → Fec
transmit_tunnel place control own source group =
    lsp (own_addr place) (tunnel_number own.vrf (number_by (transmitted (selections_of control own.id) source group)))

-- whether another edge has joined (S,G) at the VRF by a Source Tree Join
abbrev pub is_joined_by : EdgePlace → OwnVrf → Addr → Addr → NodeId × Taken → Bool
is_joined_by place own source group peer = list_any (same_flow source group) (found_in (imported_join place own.vrf) (maps.entries peer.1))

abbrev pub is_joined_in : EdgePlace → Control → OwnVrf → Addr → Addr → Bool
is_joined_in place control own source group = list_any (is_joined_by place own source group) (maps.entries control.peers)

-- ---- at an egress

-- the selective routes that the VRF imports from a peer, as they were learned
abbrev pub learned_route : EdgePlace → OwnVrf → NodeId → Key × TakenRoute → Option LearnedRoute
learned_route place own peer entry = elim (imported_selective own.vrf (addr_of place.scenario peer) entry) [
  | None ↦ None
  | Some imported ↦
      (let pattern : Pattern = record { source = imported.route.source; group = imported.route.group } in
      Some (record { pattern = pattern; fec = imported.fec; since = entry.1.since; run = entry.1.run }))
]

abbrev pub learned_routes : EdgePlace → Control → OwnVrf → NodeId → List LearnedRoute
learned_routes place control own peer = found_in (learned_route place own peer) (maps.entries (taken_from control peer))

-- the inclusive tunnels whose routes the VRF imports from a peer, each of which it wants always
abbrev pub inclusive_tunnels : EdgePlace → OwnVrf → NodeId × Taken → List Fec
inclusive_tunnels place own peer = found_in (imported_inclusive own.vrf (addr_of place.scenario peer.0)) (maps.entries peer.1)

-- the selective tunnels that a flow of the VRF wants: those of its upstream alone
abbrev pub flow_tunnels : EdgePlace → Control → OwnVrf → VrfFlow × Option Upstream → List Fec
flow_tunnels place control own (flow, Some (Remote edge rd import source_as)) =
    map (λ route. route.fec) (wanted (learned_routes place control own edge) flow.source flow.group)
flow_tunnels place control own (flow, other) = []

-- the flows of a VRF at the last step
abbrev pub flows_of : Control → VrfId → List (VrfFlow × Option Upstream)
flows_of control vrf = filter (λ (entry : VrfFlow × Option Upstream). entry.0.vrf.0 == vrf.0) (maps.entries control.flows)

abbrev pub tunnels_of : EdgePlace → Control → OwnVrf → List Fec
tunnels_of place control own =
    flat_map (inclusive_tunnels place own) (maps.entries control.peers)
    ++ flat_map (flow_tunnels place control own) (flows_of control own.id)

-- The tunnels of which the edge is to be a leaf: by its steps it is one of these, and of no other.
abbrev pub leaves : EdgePlace → Control → FinSet fec_cmp
leaves place control = sets.from_list (flat_map (tunnels_of place control) (own_vrfs place))
