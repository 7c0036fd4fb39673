-- A pair of edges between which nothing is left to be done, and what holds of it (RFC 6513 sections 5.1 and 7; RFC 6514 sections 11, 12).
use Rattle.std.specs.Prelude.{◌≡◌, ◌≢◌, ℕ, ◌≤◌, true, [], Some}
use Rattle.std.specs.FinMap as maps
use Rattle.std.specs.FinSet as sets
use Rattle.mv_base.specs.declared.ids.NodeId.{NodeId}
use Rattle.mv_base.specs.declared.rd.Rd.{Rd}
use Rattle.mv_base.specs.route_targets.Targets.{same}
use Rattle.selective_defs.specs.Selective.{Among, IsDue}
use Rattle.edge_defs.specs.Edge.{VrfPattern, Selected, VrfFlow, Import}
use Rattle.edge_defs.specs.Flows.{flows_at}
use Rattle.edge_defs.specs.Originated.{own_import}
use Rattle.edge_defs.specs.Place.{OwnVrf, own_vrfs}
use Rattle.edge_defs.specs.Tunnels.{leaves, transmit_tunnel, is_joined_in}
use Rattle.edge_words.specs.edge_laws.Network.{EdgeNetwork, place_of}

-- The session of two edges is joined, and nothing is in transit either way.
pub record CalmSession (network : EdgeNetwork) (a b : NodeId) : Type 0 where
  pub two : a ≢ b
  pub joined : (network.direction a b).joined ≡ true
  pub joined_back : (network.direction b a).joined ≡ true
  pub quiet : (network.direction a b).transit ≡ []
  pub quiet_back : (network.direction b a).transit ≡ []

-- no delay of a selection of the edge is over and was not run
abbrev pub NoneDue : EdgeNetwork → NodeId → Type 0
NoneDue network root = (key : VrfPattern) (selected : Selected) → maps.get (network.node root).selections key ≡ Some selected
    → IsDue network.scenario.delay network.clock selected.since → selected.run ≡ true

-- The flows of each edge are those that were asked for at some clock, with the upstreams that its VRFs choose by all that they know now,
-- and by the core that the edge knows now.
abbrev pub FlowsStand : EdgeNetwork → Type 0
FlowsStand network = (n : NodeId) → (moment : ℕ) × (moment ≤ network.clock)
    × ((network.node n).flows ≡ flows_at (place_of network n) moment (network.node n))

-- two VRFs are of one VPN
abbrev pub AreOfOneVpn : OwnVrf → OwnVrf → Type 0
AreOfOneVpn own other = same own.vrf.targets other.vrf.targets ≡ true

-- A flow of an egress whose upstream is a VRF of the root: that VRF is one of the same VPN, and the route chosen names it; the root
-- knows that the flow is joined there; and by what the egress keeps of its customers and of BGP it is to be a leaf of the tunnel on
-- which the root transmits the flow.
pub record CalmFlow (network : EdgeNetwork) (root egress : NodeId) (own : OwnVrf) (flow : VrfFlow) (rd : Rd) (import : Import)
    (source_as : ℕ) : Type 0 where
  pub root_vrf : OwnVrf
  pub of_root : Among root_vrf (own_vrfs (place_of network root))
  pub vpn : AreOfOneVpn root_vrf own
  pub distinguisher : rd ≡ root_vrf.vrf.rd
  pub named : import ≡ own_import (place_of network root) root_vrf.vrf
  pub system : source_as ≡ network.scenario.system
  pub is_joined : is_joined_in (place_of network root) (network.node root) root_vrf flow.source flow.group ≡ true
  pub leaf :
      sets.contains (leaves (place_of network egress) (network.node egress))
      (transmit_tunnel (place_of network root) (network.node root) root_vrf flow.source flow.group)
      ≡ true
