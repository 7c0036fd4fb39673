-- Where a datagram goes that enters at a VRF, or that arrives at an edge under a label (RFC 6513 sections 9.1.1 and 12; RFC 3032).
use Rattle.std.specs.Prelude.{ℕ, ◌==◌, ◌&&◌, Bool, true, false, not, List, [], slice_get, Option, None, Some, if◌then◌else◌}
use Rattle.std.specs.List.{filter, flat_map, list_any}
use Rattle.std.specs.FinMap as maps
use Rattle.std.specs.FinSet as sets
use Rattle.mv_base.specs.declared.addr.Addr.{Addr}
use Rattle.mv_base.specs.declared.ids.IfaceId.{IfaceId}
use Rattle.mv_base.specs.declared.ids.NodeId.{NodeId}
use Rattle.mv_base.specs.declared.ids.SiteId.{SiteId}
use Rattle.label_defs.specs.mldp.declared.mldp_fec.fec.Fec.{Fec}
use Rattle.bgp_messages.specs.declared.bgp_attributes.key.Key.{Key}
use Rattle.choice_defs.specs.scenario_defs.Vpn.{is_of_site}
use Rattle.choice_defs.specs.scenario_defs.declared.scenario.Scenario.{Scenario}
use Rattle.label_defs.specs.LabelData.{same_fec, use_of, branches_of}
use Rattle.label_defs.specs.declared.branch.Branch.{Branch}
use Rattle.label_defs.specs.declared.label_use.LabelUse.{LabelUse}
use Rattle.label_defs.specs.declared.label_use.LabelUse.TheVariants as uses
use Rattle.edge_defs.specs.Edge.{Upstream, Site, Remote, TakenRoute, Taken, Control, EdgeData}
use Rattle.edge_defs.specs.Flows.{asking_ifaces}
use Rattle.edge_defs.specs.Imported.{imported_inclusive, imported_selective, ImportedSelective}
use Rattle.edge_defs.specs.Place.{EdgePlace, OwnVrf, addr_of, own_vrfs}
use Rattle.edge_defs.specs.Tunnels.{transmit_tunnel, is_joined_in}
use Rattle.edge_defs.specs.Upstream.{upstream_for}

-- Where a datagram goes from a node: the interfaces at which it leaves, in order, and the branches on which a copy is put, in order of
-- neighbours and labels.
pub record Fate : Type 0 where
  pub outs : List IfaceId
  pub branches : List Branch

abbrev pub discarded : Fate
discarded = record { outs = []; branches = [] }

-- ---- a datagram that enters

-- whether the upstream is that site, and whether it is that edge
abbrev pub is_from_site : SiteId → Option Upstream → Bool
is_from_site site (Some (Site own)) = own.0 == site.0
is_from_site site other = false

abbrev pub is_from_edge : NodeId → Option Upstream → Bool
is_from_edge edge (Some (Remote own rd import source_as)) = own.0 == edge.0
is_from_edge edge other = false

-- whether the interface belongs to another site
abbrev pub is_outside : Scenario → SiteId → IfaceId → Bool
is_outside scenario site iface =
    elim (slice_get scenario.ifaces iface.0) [ None ↦ false | Some found ↦ not (is_of_site site found) ]

-- A datagram of a site enters at a VRF only where the VRF's upstream for its source and group is that site. It leaves at each
-- interface outside the site that asks for it; and where another edge has joined the flow, a copy goes on each branch of the tunnel that
-- is transmitted on.
abbrev pub entering_fate : EdgePlace → ℕ → EdgeData → OwnVrf → SiteId → Addr → Addr → Fate
entering_fate place now edge own site source group =
    if is_from_site site (upstream_for place edge.control own source group)
    then record {
      outs = filter (is_outside place.scenario site) (asking_ifaces place now edge.control own source group);
      branches =
          if is_joined_in place edge.control own source group
          then branches_of edge.part (transmit_tunnel place edge.control own source group)
          else [];
    }
    else discarded

-- ---- a datagram that arrives

-- whether a route of the tunnel is imported from a peer
abbrev pub is_tunnel : Fec → Option Fec → Bool
is_tunnel fec None = false
is_tunnel fec (Some own) = same_fec own fec

abbrev pub selective_fec : Option ImportedSelective → Option Fec
selective_fec None = None
selective_fec (Some imported) = Some imported.fec

abbrev pub is_route_of : EdgePlace → OwnVrf → NodeId → Fec → Key × TakenRoute → Bool
is_route_of place own peer fec entry =
    if is_tunnel fec (imported_inclusive own.vrf (addr_of place.scenario peer) entry) then true
    else is_tunnel fec (selective_fec (imported_selective own.vrf (addr_of place.scenario peer) entry))

abbrev pub is_imported_from : EdgePlace → OwnVrf → Fec → NodeId × Taken → Bool
is_imported_from place own fec peer = list_any (is_route_of place own peer.0 fec) (maps.entries peer.1)

-- The copy is delivered at a VRF that imports a route of the tunnel, where the VRF's upstream for its source and group is the
-- tunnel's root: it leaves at each interface that asks for it.
abbrev pub outs_from : EdgePlace → ℕ → Control → OwnVrf → Fec → Addr → Addr → NodeId × Taken → List IfaceId
outs_from place now control own fec source group peer =
    if is_imported_from place own fec peer && is_from_edge peer.0 (upstream_for place control own source group)
    then asking_ifaces place now control own source group
    else []

abbrev pub outs_at : EdgePlace → ℕ → Control → Fec → Addr → Addr → OwnVrf → List IfaceId
outs_at place now control fec source group own = flat_map (outs_from place now control own fec source group) (maps.entries control.peers)

-- at a leaf, VRF by VRF
abbrev pub outs_of : EdgePlace → ℕ → EdgeData → Fec → Addr → Addr → List IfaceId
outs_of place now edge fec source group =
    if sets.contains edge.part.leaves fec then flat_map (outs_at place now edge.control fec source group) (own_vrfs place) else []

-- the tree to which a label is mapped towards the neighbour that a copy came from
abbrev pub tree_of : NodeId → Option LabelUse → Option Fec
tree_of from (Some (uses.Mapped fec upstream)) = if upstream.0 == from.0 then Some fec else None
tree_of from other = None

-- A copy under a label that is mapped towards the neighbour from which it came is delivered at a leaf, and goes on each branch of the
-- tree. Any other is discarded.
abbrev pub arriving_fate : EdgePlace → ℕ → EdgeData → NodeId → ℕ → Addr → Addr → Fate
arriving_fate place now edge from label source group = elim (tree_of from (use_of edge.part label)) [
  | None ↦ discarded
  | Some fec ↦ record { outs = outs_of place now edge fec source group; branches = branches_of edge.part fec }
]
