-- Sessions that come up and are lost, end by end.
use Rattle.std.specs.Prelude.{◌≡◌, ◌<◌, false, length}
use Rattle.mv_base.specs.declared.ids.NodeId.{NodeId}
use Rattle.scenario_defs.specs.declared.event.Kind.{Kind}
use Rattle.network_defs.specs.session_defs.Message.{same_direction}
use Rattle.network_defs.specs.declared.session_defs.direction.Direction.{Direction}
use Rattle.network_defs.specs.Counts.{direction, is_end_up}
use Rattle.network_nodes.specs.wire_laws.Edges.{IsWay}
use Rattle.network_acts.specs.control_plane.Acted.{Standing}
use Rattle.network_acts.specs.control_plane.Plane.{Moment}

-- Node a has acted on the present costs, and its session with b, which is one of the scenario, is not joined.
pub record IsLost (kind : Kind) (a b : NodeId) (at : Standing) : Type 0 where
  pub within : a.0 < length at.scenario.nodes
  pub current : at.moment.late a ≡ false
  pub apart : at.network.joined (direction kind b a) ≡ false
  pub way : IsWay at.scenario (direction kind a b)

-- Both ends of a session of the scenario are down, no other session comes up, and node a has acted on the present costs.
pub record IsDown (kind : Kind) (a b : NodeId) (at : Standing) : Type 0 where
  pub within : a.0 < length at.scenario.nodes
  pub current : at.moment.late a ≡ false
  pub way : IsWay at.scenario (direction kind a b)
  pub calm : (over : Direction) → at.moment.rising over ≡ false
  pub first : is_end_up kind (at.network.state.node a) b ≡ false
  pub second : is_end_up kind (at.network.state.node b) a ≡ false

-- Of a session of the scenario the end of b is still to come up, that of no other, and node b has acted on the present costs.
pub record IsHalfUp (kind : Kind) (a b : NodeId) (at : Standing) : Type 0 where
  pub within : b.0 < length at.scenario.nodes
  pub current : at.moment.late b ≡ false
  pub way : IsWay at.scenario (direction kind a b)
  pub down : is_end_up kind (at.network.state.node b) a ≡ false
  pub rising : (over : Direction) → same_direction over (direction kind a b) ≡ false → at.moment.rising over ≡ false

-- the end of b is to come up next, and no other
abbrev pub with_rising : Kind → NodeId → NodeId → Moment → Moment
with_rising kind a b moment = record moment { rising = λ over. same_direction over (direction kind a b) }

-- no end is to come up next
abbrev pub none_rising : Moment → Moment
none_rising moment = record moment { rising = λ over. false }
