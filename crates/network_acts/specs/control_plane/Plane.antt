-- Which control plane of the definitions a control plane is.
use Rattle.std.specs.Prelude.{◌≡◌, ◌<◌, ◌++◌, Bool, true, false, List, [], length, slice_get, None, Some, if◌then◌else◌}
use Rattle.mv_base.specs.declared.ids.NodeId.{NodeId}
use Rattle.mv_base.specs.framing.Feed.{unfed}
use Rattle.scenario_defs.specs.declared.scenario.Scenario.{Scenario}
use Rattle.network_defs.specs.session_defs.Message.{SessionMessage}
use Rattle.network_defs.specs.session_defs.Octets.{OctetNetwork}
use Rattle.network_defs.specs.session_defs.Refined.{AreLines}
use Rattle.network_defs.specs.session_defs.System.{Put, octets_over}
use Rattle.network_defs.specs.declared.session_defs.direction.Direction.{Direction}
use Rattle.net_sessions.specs.session_transit.TransitData.{is_joined_at, octets_at}
use Rattle.net_sessions.specs.session_ways.Ways.{ways_from}
use Rattle.network_defs.specs.Costs.{AreCoresOf, Cores}
use Rattle.network_defs.specs.Counts.{directions, is_end_up}
use Rattle.network_defs.specs.Nodes.{Nodes}
use Rattle.network_laws.specs.Sound.{Sound}
use Rattle.network_nodes.specs.wire_laws.Edges.{IsWay}
use Rattle.network_nodes.specs.Network.{IsNodeOf}
use Rattle.network_nodes.specs.NodeView.{IsPlacedAt, spent_in}
use Rattle.network_nodes.specs.declared.node.NetworkNode.{NetworkNode}
use Rattle.network_acts.specs.control_plane.PlaneView.{PlaneView}

-- ---- moments of an event

-- What is under way where an event has several acts: which nodes have not acted on the present costs yet, and over which directions the
-- receiver's end is to come up next, though the session is joined.
pub record Moment : Type 0 where
  pub late : NodeId → Bool
  pub rising : Direction → Bool

-- nothing is
abbrev pub at_rest : Moment
at_rest = record { late = λ n. false; rising = λ over. false }

-- ---- the network of octets

-- What holds of the network of octets at such a moment: its nodes are sound; over each joined session the octets carry whole messages, and
-- no stream has a fault; only sessions of the scenario are joined; a joined direction leads to an end that is up; and an end that is down
-- holds back nothing.
pub record IsSteady (moment : Moment) (network : OctetNetwork Nodes) : Type 0 where
  pub sound : Sound network.state.scenario network.state
  pub pending : Direction → List SessionMessage
  pub lines : AreLines network pending
  pub whose : (over : Direction) → network.joined over ≡ true → IsWay network.state.scenario over
  pub up : (over : Direction) → network.joined over ≡ true → moment.rising over ≡ false →
      is_end_up over.kind (network.state.node over.to) over.from ≡ true
  pub fresh : (over : Direction) → is_end_up over.kind (network.state.node over.to) over.from ≡ false → network.stream over ≡ unfed

-- ---- nodes

-- the node of that number is this one of the network, which has put so much and not handed it out
pub record HasNode (network : OctetNetwork Nodes) (nodes : List NetworkNode) (n : NodeId) (puts : List Put) : Type 0 where
  pub node : NetworkNode
  pub at : slice_get nodes n.0 ≡ Some node
  pub placed : IsPlacedAt network.state.scenario n node
  pub unspent : spent_in node ≡ None
  pub is : IsNodeOf network n puts node

-- Each node of the scenario stands at its number.
pub record ArePlaced (scenario : Scenario) (nodes : List NetworkNode) : Type 0 where
  pub each : (n : NodeId) → n.0 < length scenario.nodes →
      (node : NetworkNode) × (slice_get nodes n.0 ≡ Some node) × IsPlacedAt scenario n node

-- The nodes stand where they stood, whatever else became of them.
pub record KeepsPlaces (old new : PlaneView) : Type 0 where
  pub keeps : (scenario : Scenario) → ArePlaced scenario old.nodes → ArePlaced scenario new.nodes

-- ---- the control plane

-- What the control plane shares with the network whatever node is at work: the scenario and its cores, the costs, the clock, and how many
-- nodes there are.
pub record IsAround (scenario : Scenario) (cores : Cores) (moment : Moment) (network : OctetNetwork Nodes) (plane : PlaneView)
    : Type 0 where
  pub scenario_is : network.state.scenario ≡ scenario
  pub cores_are : network.state.cores ≡ cores
  pub of_scenario : AreCoresOf scenario cores
  pub core : plane.core ≡ record { nodes = length scenario.nodes; links = network.state.links }
  pub known : (n : NodeId) → n.0 < length scenario.nodes → moment.late n ≡ false → network.state.known n ≡ network.state.links
  pub clock : network.state.clock ≡ plane.clock
  pub small : plane.clock < 9223372036854775808
  pub count : length plane.nodes ≡ length scenario.nodes
  pub ways : (n : NodeId) → n.0 < length scenario.nodes → slice_get plane.ways n.0 ≡ Some (ways_from n (directions scenario))
  pub joined : (over : Direction) → network.joined over ≡ is_joined_at plane.transit over
  pub steady : IsSteady moment network

-- The control plane is that of the network, in which nothing waits to be handed out.
pub record IsPlane (scenario : Scenario) (cores : Cores) (moment : Moment) (network : OctetNetwork Nodes) (plane : PlaneView)
    : Type 0 where
  pub around : IsAround scenario cores moment network plane
  pub nodes : (n : NodeId) → n.0 < length scenario.nodes → HasNode network plane.nodes n []
  pub transit : (over : Direction) → network.transit over ≡ octets_at plane.transit over

-- The same in the midst of an act of node n: the network is after it, and what it put is not handed out.
pub record IsMidway (scenario : Scenario) (cores : Cores) (moment : Moment) (n : NodeId) (puts : List Put) (network : OctetNetwork Nodes)
    (plane : PlaneView) : Type 0 where
  pub around : IsAround scenario cores moment network plane
  pub within : n.0 < length scenario.nodes
  pub own : HasNode network plane.nodes n puts
  pub nodes : (m : NodeId) → ¬ (m ≡ n) → m.0 < length scenario.nodes → HasNode network plane.nodes m []
  pub transit : (over : Direction) → network.transit over ≡
      (if network.joined over then octets_at plane.transit over ++ octets_over over puts else octets_at plane.transit over)
  pub away : (over : Direction) → ¬ (over.from ≡ n) → octets_over over puts ≡ []
