-- Routes of tunnels are those of their roots: what an edge was told of a tunnel is what its root says of a VRF of its own.
use Rattle.std.specs.Prelude.{◌≡◌, ◌<◌, ℕ, slice_get, Some}
use Rattle.std.specs.List.{AllByRecursion}
use Rattle.std.specs.FinMap as maps
use Rattle.mv_base.specs.declared.ids.NodeId.{NodeId}
use Rattle.mv_base.specs.declared.ids.VrfId.{VrfId}
use Rattle.mldp.specs.declared.mldp_fec.fec.Fec.{Fec}
use Rattle.bgp_messages.specs.declared.bgp_attributes.key.Key.{Key}
use Rattle.scenario_defs.specs.declared.scenario.Scenario.{Scenario}
use Rattle.scenario_defs.specs.declared.scenario.Vrf.{Vrf}
use Rattle.mv_base.specs.table_defs.Changes.{value_of}
use Rattle.mv_base.specs.declared.table_defs.change.Change.{Change}
use Rattle.edge_defs.specs.Edge.{VrfPattern, Selected, TakenRoute, Control}
use Rattle.edge_defs.specs.Imported.{lsp_of, taken_from}
use Rattle.edge_defs.specs.Keys.{Value}
use Rattle.edge_defs.specs.Originated.{target_comms}
use Rattle.edge_defs.specs.Place.{addr_of, lsp, tunnel_number}
use Rattle.edge_words.specs.edge_laws.Network.{EdgeNetwork}

-- The tunnel is one of a VRF of the edge, and the communities are that VRF's Route Targets.
pub record IsTunnelRoute (scenario : Scenario) (root : NodeId) (value : Value) (fec : Fec) : Type 0 where
  pub id : VrfId
  pub vrf : Vrf
  pub known : slice_get scenario.vrfs id.0 ≡ Some vrf
  pub at_root : vrf.edge.0 ≡ root.0
  pub number : ℕ
  pub small : number < 1048576
  pub tunnel : fec ≡ lsp (addr_of scenario root) (tunnel_number vrf number)
  pub targets : value.comms ≡ target_comms vrf

-- what an edge may say: a value with a tunnel is one of its own
abbrev pub HonestValue : Scenario → NodeId → Value → Type 0
HonestValue scenario root value = (fec : Fec) → lsp_of value.pmsi ≡ Some fec → IsTunnelRoute scenario root value fec

abbrev pub HonestChange : Scenario → NodeId → Change Key Value → Type 0
HonestChange scenario root change = (value : Value) → value_of change ≡ Some value → HonestValue scenario root value

-- a number of 20 bits
abbrev pub SmallNumbers : Control → Type 0
SmallNumbers control =
    (key : VrfPattern) (selected : Selected) → maps.get control.selections key ≡ Some selected → selected.number < 1048576

-- What each edge took from another, and what is in transit from it, is what that one may say; and selections have small numbers.
pub record Honest (network : EdgeNetwork) : Type 0 where
  pub taken : (a b : NodeId) (key : Key) (route : TakenRoute) → maps.get (taken_from (network.node b) a) key ≡ Some route
      → HonestValue network.scenario a route.value
  pub transit : (a b : NodeId) → AllByRecursion (HonestChange network.scenario a) (network.direction a b).transit
  pub numbers : (n : NodeId) → SmallNumbers (network.node n)
