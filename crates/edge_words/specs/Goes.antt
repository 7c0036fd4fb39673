-- Where a datagram leaves and goes on that enters at a VRF, or that arrives at an edge under a label (RFC 6513 sections 9.1.1 and 12).
use Rattle.std.specs.Prelude.{◌≡◌, ◌≢◌, ◌⊎◌, ℕ, true, slice_get, Some}
use Rattle.std.specs.FinMap as maps
use Rattle.std.specs.FinSet as sets
use Rattle.mv_base.specs.declared.addr.Addr.{Addr}
use Rattle.mv_base.specs.declared.ids.IfaceId.{IfaceId}
use Rattle.mv_base.specs.declared.ids.NodeId.{NodeId}
use Rattle.mv_base.specs.declared.ids.SiteId.{SiteId}
use Rattle.mv_base.specs.declared.rd.Rd.{Rd}
use Rattle.label_defs.specs.mldp.declared.mldp_fec.fec.Fec.{Fec}
use Rattle.bgp_messages.specs.declared.bgp_attributes.key.Key.{Key}
use Rattle.scenario_defs.specs.declared.scenario.Iface.{Iface}
use Rattle.scenario_defs.specs.declared.scenario.Scenario.{Scenario}
use Rattle.label_defs.specs.LabelData.{use_of}
use Rattle.label_defs.specs.declared.branch.Branch.{Branch}
use Rattle.label_defs.specs.declared.label_use.LabelUse.TheVariants as uses
use Rattle.selective_defs.specs.Selective.{Among}
use Rattle.edge_defs.specs.Edge.{Site, Remote, Import, TakenRoute, Control, EdgeData}
use Rattle.edge_defs.specs.Imported.{ImportedSelective, taken_from, imported_inclusive, imported_selective, imported_join}
use Rattle.edge_defs.specs.Place.{EdgePlace, OwnVrf, addr_of, own_vrfs}
use Rattle.edge_defs.specs.Tunnels.{transmit_tunnel}
use Rattle.edge_defs.specs.Upstream.{upstream_for}
use Rattle.edge_words.specs.Asked.{IsIfaceOf, Asks}

-- The interface is one of another site.
pub record IsOutside (scenario : Scenario) (site : SiteId) (iface : IfaceId) : Type 0 where
  pub found : Iface
  pub at : slice_get scenario.ifaces iface.0 ≡ Some found
  pub of_other : found.site.0 ≢ site.0

-- An interface of the VRF asks for the flow.
pub record IsAsking (place : EdgePlace) (now : ℕ) (control : Control) (own : OwnVrf) (source group : Addr) (iface : IfaceId) : Type 0 where
  pub of_vrf : IsIfaceOf place.scenario own.id iface
  pub asks : Asks place now control own source group iface

-- Another edge has joined the flow at the VRF: a Source Tree Join for it was taken from a peer, and names the VRF.
pub record IsJoined (place : EdgePlace) (control : Control) (own : OwnVrf) (source group : Addr) : Type 0 where
  pub peer : NodeId
  pub key : Key
  pub route : TakenRoute
  pub taken : maps.get (taken_from control peer) key ≡ Some route
  pub joins : imported_join place own.vrf (key, route) ≡ Some (record { source = source; group = group })

-- ---- a datagram that enters

-- A datagram of a site that enters at a VRF leaves at the interface: the VRF's upstream for its source and group is that site, and the
-- interface asks for it and is of another site.
pub record EntersOut (place : EdgePlace) (now : ℕ) (edge : EdgeData) (own : OwnVrf) (site : SiteId) (source group : Addr)
    (iface : IfaceId) : Type 0 where
  pub upstream : upstream_for place edge.control own source group ≡ Some (Site site)
  pub asking : IsAsking place now edge.control own source group iface
  pub outside : IsOutside place.scenario site iface

-- A copy of it goes on the branch: the upstream is that site, another edge has joined the flow there, and the branch is one of the
-- tunnel on which the VRF transmits the flow.
pub record EntersOn (place : EdgePlace) (edge : EdgeData) (own : OwnVrf) (site : SiteId) (source group : Addr)
    (branch : Branch) : Type 0 where
  pub upstream : upstream_for place edge.control own source group ≡ Some (Site site)
  pub joined : IsJoined place edge.control own source group
  pub has : sets.contains edge.part.branches branch ≡ true
  pub of_tunnel : branch.fec ≡ transmit_tunnel place edge.control own source group

-- ---- a datagram that arrives

-- The VRF imports a route of the tunnel from the peer, an inclusive or a selective one.
pub record IsImported (place : EdgePlace) (control : Control) (own : OwnVrf) (peer : NodeId) (fec : Fec) : Type 0 where
  pub key : Key
  pub route : TakenRoute
  pub taken : maps.get (taken_from control peer) key ≡ Some route
  pub of_tunnel :
      (imported_inclusive own.vrf (addr_of place.scenario peer) (key, route) ≡ Some fec)
      ⊎ ((imported : ImportedSelective) × (imported_selective own.vrf (addr_of place.scenario peer) (key, route) ≡ Some imported)
      × (imported.fec ≡ fec))

-- A copy that comes from a neighbour under a label leaves at the interface: the label is mapped to a tree towards that neighbour, the
-- edge is a leaf of the tree, and a VRF of the edge imports a route of the tree from the edge that is its upstream for the flow; and the
-- interface is one of that VRF and asks for the flow.
pub record ArrivesOut (place : EdgePlace) (now : ℕ) (edge : EdgeData) (from : NodeId) (label : ℕ) (source group : Addr)
    (iface : IfaceId) : Type 0 where
  pub fec : Fec
  pub mapped : use_of edge.part label ≡ Some (uses.Mapped fec from)
  pub leaf : sets.contains edge.part.leaves fec ≡ true
  pub own : OwnVrf
  pub of_edge : Among own (own_vrfs place)
  pub peer : NodeId
  pub imported : IsImported place edge.control own peer fec
  pub rd : Rd
  pub import : Import
  pub source_as : ℕ
  pub upstream : upstream_for place edge.control own source group ≡ Some (Remote peer rd import source_as)
  pub asking : IsAsking place now edge.control own source group iface

-- It goes on the branch: the label is mapped to a tree towards that neighbour, and the branch is one of the tree.
pub record ArrivesOn (edge : EdgeData) (from : NodeId) (label : ℕ) (branch : Branch) : Type 0 where
  pub fec : Fec
  pub mapped : use_of edge.part label ≡ Some (uses.Mapped fec from)
  pub has : sets.contains edge.part.branches branch ≡ true
  pub of_tree : branch.fec ≡ fec
