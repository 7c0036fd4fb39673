-- What holds of the nodes of a calm network: each flow has a tree, and each receiver hangs on one of them.
use Rattle.std.specs.Prelude.{◌≡◌, ◌≢◌, ◌⊎◌, ℕ, ◌<◌, ◌≤◌, ◌==◌, ◌&&◌, Bool, true, List, [], Some, slice_get, count_by, if◌then◌else◌}
use Rattle.std.specs.List.{list_any, AllByRecursion}
use Rattle.mv_base.specs.declared.addr.Addr.{Addr}
use Rattle.mv_base.specs.declared.ids.IfaceId.{IfaceId}
use Rattle.mv_base.specs.declared.ids.NodeId.{NodeId}
use Rattle.mv_base.specs.declared.ids.SiteId.{SiteId}
use Rattle.mv_base.specs.declared.ids.VrfId.{VrfId}
use Rattle.mldp.specs.declared.mldp_fec.fec.Fec.{Fec}
use Rattle.label_defs.specs.LabelData.{use_of, has_tree, branches_of}
use Rattle.label_defs.specs.declared.branch.Branch.{Branch}
use Rattle.label_defs.specs.declared.label_use.LabelUse.TheVariants as uses
use Rattle.scenario_defs.specs.Vpn.{entered}
use Rattle.scenario_defs.specs.declared.scenario.Vrf.{Vrf}
use Rattle.network_defs.specs.session_defs.Octets.{OctetNetwork}
use Rattle.mvpn_model.specs.Past.{is_of_edge}
use Rattle.edge_defs.specs.Datagrams.{Fate, outs_of}
use Rattle.network_defs.specs.Nodes.{NodeState, Edge, CoreNode, Nodes, part_of, place_of}
use Rattle.network_defs.specs.World.{World, Datagram}
use Rattle.delivery_laws.specs.Flood.{OnLinks, fate_of_entry}

-- ---- a tree

-- the branches of a tree at a node
abbrev pub branches_in : OctetNetwork Nodes → Fec → NodeId → List Branch
branches_in network fec n = branches_of (part_of (network.state.node n)) fec

-- how many of the branches lead to a node
abbrev pub leading_to : NodeId → List Branch → ℕ
leading_to n list = count_by (λ branch. branch.node.0 == n.0) list

-- one branch leads to the node, from the node above
abbrev pub HangsBelow : (NodeId → List Branch) → NodeId → NodeId → Type 0
HangsBelow branches n above = (u : NodeId) → leading_to n (branches u) ≡ (if u.0 == above.0 then 1 else 0)

-- Where a node of the tree hangs: below another node of it, which is nearer to the root.
pub record HangsIn (network : OctetNetwork Nodes) (fec : Fec) (depth : NodeId → ℕ) (n : NodeId) : Type 0 where
  pub above : NodeId
  pub once : HangsBelow (branches_in network fec) n above
  pub on_tree : has_tree (part_of (network.state.node above)) fec ≡ true
  pub nearer : depth above < depth n

-- The branches of the FEC are a tree from the root: each has its label mapped at the neighbour, towards the node; none leads to the
-- root, and one leads to each other node that is on the tree; no node is deeper than a TTL reaches.
pub record CalmTree (network : OctetNetwork Nodes) (fec : Fec) (root : NodeId) : Type 0 where
  pub mapped : (u : NodeId)
      → AllByRecursion (λ branch. use_of (part_of (network.state.node branch.node)) branch.label ≡ Some (uses.Mapped fec u))
      (branches_in network fec u)
  pub from_root : (u : NodeId) → leading_to root (branches_in network fec u) ≡ 0
  pub depth : NodeId → ℕ
  pub bounded : (n : NodeId) → depth n ≤ 255
  pub hangs : (n : NodeId) → has_tree (part_of (network.state.node n)) fec ≡ true → n ≢ root → HangsIn network fec depth n

-- ---- a flow

-- the interfaces at which a copy of the datagram on that tree leaves from a node
abbrev pub node_outs : OctetNetwork Nodes → Datagram → Fec → NodeId → NodeState → List IfaceId
node_outs network datagram fec n (Edge edge) =
    outs_of (place_of network.state n) network.state.clock edge fec datagram.source datagram.group
node_outs network datagram fec n (CoreNode part) = []

abbrev pub outs_in_tree : OctetNetwork Nodes → Datagram → Fec → NodeId → List IfaceId
outs_in_tree network datagram fec n = node_outs network datagram fec n (network.state.node n)

-- whether the interface is among those
abbrev pub is_among : IfaceId → List IfaceId → Bool
is_among iface ifaces = list_any (λ own. own.0 == iface.0) ifaces

-- The tunnel of the FEC takes the datagram from the root to each interface of another edge that is served, and to no other one there.
pub record CalmTunnel (network : OctetNetwork Nodes) (datagram : Datagram) (serves : IfaceId → Bool) (root : NodeId)
    (fec : Fec) : Type 0 where
  pub tree : CalmTree network fec root
  pub leaves : (n : NodeId) (iface : IfaceId) → n ≢ root → is_of_edge network.state.scenario n iface ≡ true
      → is_among iface (outs_in_tree network datagram fec n) ≡ serves iface

-- what becomes of a datagram as it enters at the VRF
abbrev pub fate_at_vrf : OctetNetwork Nodes → Datagram → VrfId → Vrf → Fate
fate_at_vrf network datagram id vrf = fate_of_entry network datagram id vrf (network.state.node vrf.edge)

-- A datagram that enters at a VRF leaves at once at the interfaces of its edge that are served, and goes on a tunnel to those of other
-- edges; or there are none.
pub record CalmEntry (network : OctetNetwork Nodes) (datagram : Datagram) (serves : IfaceId → Bool) (id : VrfId) : Type 0 where
  pub vrf : Vrf
  pub known : slice_get network.state.scenario.vrfs id.0 ≡ Some vrf
  pub near : (iface : IfaceId)
      → is_among iface (fate_at_vrf network datagram id vrf).outs ≡ (is_of_edge network.state.scenario vrf.edge iface && serves iface)
  pub far : ((fate_at_vrf network datagram id vrf).branches ≡ [])
      × ((iface : IfaceId) → serves iface ≡ true → is_of_edge network.state.scenario vrf.edge iface ≡ true)
      ⊎ ((fec : Fec) × ((fate_at_vrf network datagram id vrf).branches ≡ branches_in network fec vrf.edge)
      × CalmTunnel network datagram serves vrf.edge fec)

-- Each interface that receives the datagram is served by one of the VRFs at which it enters, and each other one by none of them.
pub record CalmFlow (network : OctetNetwork Nodes) (receives : IfaceId → Bool) (datagram : Datagram) : Type 0 where
  pub serves : VrfId → IfaceId → Bool
  pub once : (iface : IfaceId)
      → count_by (λ vrf. serves vrf iface) (entered network.state.scenario datagram.site) ≡ (if receives iface then 1 else 0)
  pub placed : (vrf : VrfId) (iface : IfaceId) → serves vrf iface ≡ true → (n : NodeId) × (is_of_edge network.state.scenario n iface ≡ true)
  pub entries : AllByRecursion (λ vrf. CalmEntry network datagram (serves vrf) vrf) (entered network.state.scenario datagram.site)

-- A calm network: no copy is on a link, branches lead along links, and of each datagram that may be sent the flow is as said. What
-- receives a flow of a site is handed in.
pub record CalmWorld (receives : SiteId → Addr → Addr → IfaceId → Bool) (world : World) : Type 0 where
  pub empty : (u n : NodeId) → world.copies u n ≡ []
  pub links : OnLinks world.network
  pub flows : (datagram : Datagram) → CalmFlow world.network (receives datagram.site datagram.source datagram.group) datagram
