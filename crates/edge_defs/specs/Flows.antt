-- The flows of an edge's VRFs (RFC 7761 section 4.1.5; RFC 6514 section 14 for sources that other edges know to send).
use Rattle.std.specs.Prelude.{ℕ, ◌&&◌, Bool, List, ◌++◌, map, Option, None, Some, if◌then◌else◌}
use Rattle.std.specs.List.{filter, flat_map, list_any}
use Rattle.std.specs.FinMap as maps
use Rattle.std.specs.FinMap.{FinMap}
use Rattle.mv_base.specs.Address.{same_addr}
use Rattle.mv_base.specs.declared.addr.Addr.{Addr}
use Rattle.mv_base.specs.declared.ids.IfaceId.{IfaceId}
use Rattle.mv_base.specs.declared.ids.NodeId.{NodeId}
use Rattle.pim_defs.specs.Entries.{asks}
use Rattle.choice_defs.specs.scenario_defs.Vpn.{is_of_vrf, ifaces_where}
use Rattle.choice_defs.specs.scenario_defs.declared.event.IfaceEntry.{IfaceEntry}
use Rattle.choice_defs.specs.scenario_defs.declared.event.JoinEntry.TheVariants as entries
use Rattle.edge_defs.specs.Edge.{Note, VrfFlow, flow_cmp, Upstream, Taken, Control}
use Rattle.edge_defs.specs.Imported.{FlowRoute, found_in, imported_active}
use Rattle.edge_defs.specs.Originated.{is_iface_of, notes_of}
use Rattle.edge_defs.specs.Place.{EdgePlace, OwnVrf, own_vrfs}
use Rattle.edge_defs.specs.Upstream.{upstream_for}

-- ---- sources that are known to send

abbrev pub noted_flow : Note → FlowRoute
noted_flow note = record { source = note.source; group = note.group }

abbrev pub active_from : OwnVrf → NodeId × Taken → List FlowRoute
active_from own peer = found_in (imported_active own.vrf) (maps.entries peer.1)

-- the flows that are known to be sent in the VRF's VPN: by notes at its interfaces, and by Source Active routes
abbrev pub active_flows : EdgePlace → Control → OwnVrf → List FlowRoute
active_flows place control own = map noted_flow (notes_of place control own.id) ++ flat_map (active_from own) (maps.entries control.peers)

abbrev pub same_flow : Addr → Addr → FlowRoute → Bool
same_flow source group flow = same_addr flow.source source && same_addr flow.group group

abbrev pub is_active : EdgePlace → Control → OwnVrf → Addr → Addr → Bool
is_active place control own source group = list_any (same_flow source group) (active_flows place control own)

-- ---- what interfaces ask for

-- whether the interface asks for (S,G)
abbrev pub is_asking : EdgePlace → ℕ → Control → OwnVrf → Addr → Addr → IfaceId → Bool
is_asking place now control own source group iface =
    asks control.entries iface source group (is_active place control own source group) now

-- the interfaces of the VRF, in order
abbrev pub ifaces_of : EdgePlace → OwnVrf → List IfaceId
ifaces_of place own = ifaces_where (λ number iface. is_of_vrf own.id iface) 0 place.scenario.ifaces

-- those of them that ask for (S,G)
abbrev pub asking_ifaces : EdgePlace → ℕ → Control → OwnVrf → Addr → Addr → List IfaceId
asking_ifaces place now control own source group = filter (is_asking place now control own source group) (ifaces_of place own)

-- whether some interface of the VRF asks for (S,G)
abbrev pub is_flow : EdgePlace → ℕ → Control → OwnVrf → FlowRoute → Bool
is_flow place now control own flow = list_any (is_asking place now control own flow.source flow.group) (ifaces_of place own)

-- ---- flows

-- the (S,G) that an entry joins itself
abbrev pub joined_by : EdgePlace → OwnVrf → IfaceEntry → Option FlowRoute
joined_by place own at = elim at.entry [
  | entries.Source source group ↦
      if is_iface_of place.scenario own.id at.iface then Some (record { source = source; group = group }) else None
  | entries.Star group ↦ None
  | entries.Rpt source group ↦ None
]

-- the (S,G) that some interface of the VRF may ask for: those that are joined themselves, and those that are known to be sent
abbrev pub possible_flows : EdgePlace → Control → OwnVrf → List FlowRoute
possible_flows place control own = found_in (joined_by place own) (maps.keys control.entries) ++ active_flows place control own

-- a flow of the VRF, with its upstream
abbrev pub with_upstream : EdgePlace → Control → OwnVrf → FlowRoute → VrfFlow × Option Upstream
with_upstream place control own flow =
    (record { vrf = own.id; source = flow.source; group = flow.group }, upstream_for place control own flow.source flow.group)

abbrev pub vrf_flows : EdgePlace → ℕ → Control → OwnVrf → List (VrfFlow × Option Upstream)
vrf_flows place now control own =
    map (with_upstream place control own) (filter (is_flow place now control own) (possible_flows place control own))

-- The flows of the edge at a clock: each (S,G) for which some interface of a VRF asks, with the upstream that the VRF chooses for it.
abbrev pub flows_at : EdgePlace → ℕ → Control → FinMap flow_cmp (Option Upstream)
flows_at place now control = maps.from_entries (flat_map (vrf_flows place now control) (own_vrfs place))
