-- Edges of the tests.
use Rattle.std.specs.Prelude.{◌≡◌, ℕ, true, length}
use Rattle.mv_base.specs.Lists.{Among}
use Rattle.mv_base.specs.declared.ids.IfaceId.{IfaceId}
use Rattle.mv_base.specs.declared.ids.NodeId.{NodeId}
use Rattle.mv_base.specs.declared.ids.VrfId.{VrfId}
use Rattle.edge_routes.specs.edge_home.Home.{Home, peers_of}
use Rattle.edge_control.specs.Places.{is_own_iface, is_own_vrf}

-- the node is another edge, and the VRF and the interface are of the edge
pub record IsRole (home : Home) (peer : NodeId) (vrf : VrfId) (iface : IfaceId) : Type 0 where
  pub peer_is : Among peer (peers_of home)
  pub vrf_is : is_own_vrf home vrf ≡ true
  pub iface_is : is_own_iface home iface ≡ true

-- the same, and the edge knows a core of as many nodes as its scenario has
pub record IsEdgeInCore (home : Home) (nodes : ℕ) (peer : NodeId) (vrf : VrfId) (iface : IfaceId) : Type 0 where
  pub role_is : IsRole home peer vrf iface
  pub nodes_are : nodes ≡ length home.scenario.nodes
