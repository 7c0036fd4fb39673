-- What may happen in a network of edges, and its runs (RFC 4271 section 3.1; RFC 6514).
use Rattle.std.specs.Prelude.{ℕ, ◌+◌, ◌==◌, ◌&&◌, ◌||◌, not, Bool, true, false, List, [], ◌∷◌, is_some, if◌then◌else◌}
use Rattle.std.specs.FinMap as maps
use Rattle.mv_base.specs.declared.ids.NodeId.{NodeId}
use Rattle.label_defs.specs.mldp.declared.mldp_msgs.message.LabelMessage.{LabelMessage}
use Rattle.label_defs.specs.Between.{is_between, is_either}
use Rattle.bgp_messages.specs.declared.bgp_attributes.key.Key.{Key}
use Rattle.bgp_messages.specs.declared.bgp_attributes.update.Message.{Message}
use Rattle.bgp_messages.specs.declared.bgp_attributes.update.Message.TheVariants as messages
use Rattle.bgp_messages.specs.bgp_update.Written.{update_of}
use Rattle.scenario_defs.specs.declared.event.Kind.TheVariants as kinds
use Rattle.mv_base.specs.declared.table_defs.change.Change.{Change}
use Rattle.edge_defs.specs.Edge.{Control, no_control}
use Rattle.edge_defs.specs.Keys.{Value}
use Rattle.edge_defs.specs.Messages.{as_update}
use Rattle.mv_base.specs.core_walks.Core.{Core}
use Rattle.edge_defs.specs.Steps as steps
use Rattle.edge_defs.specs.Steps.{CustomerCall, control_step}
use Rattle.edge_words.specs.edge_laws.Network.{EdgeNetwork, place_of, core_at, at_node, thereafter}

-- ---- steps

-- whether the end of the edge's session with the peer is up
abbrev pub is_up : Control → NodeId → Bool
is_up control peer = is_some (maps.get control.peers peer)

-- a step of one edge
abbrev pub stepped : EdgeNetwork → NodeId → steps.Call → EdgeNetwork
stepped network n call = thereafter network n (control_step (place_of network n) network.clock (network.node n) call)

-- the change, as the message that makes it
abbrev pub message_of : Change Key Value → Message
message_of change = messages.Update (update_of (as_update change))

-- these alone are left in transit from one edge to another
abbrev pub left_in_transit : EdgeNetwork → NodeId → NodeId → List (Change Key Value) → EdgeNetwork
left_in_transit network a b rest =
    record network {
      direction = λ u n. record (network.direction u n) {
        transit = if (u.0 == a.0) && (n.0 == b.0) then rest else (network.direction u n).transit;
      };
    }

-- the first message in transit is taken, if the end of the session is up; an edge has no session with itself
abbrev pub delivered : EdgeNetwork → NodeId → NodeId → Bool → Bool → List (Change Key Value) → EdgeNetwork
delivered network a b false true (change ∷ rest) = stepped (left_in_transit network a b rest) b (steps.Update a (message_of change))
delivered network a b same up changes = network

-- whether the call selects a pattern that is selected already
abbrev pub selects_again : Control → CustomerCall → Bool
selects_again control (steps.Select vrf pattern) = is_some (maps.get control.selections (record { vrf = vrf; pattern = pattern }))
selects_again control other = false

-- a call of a customer; a pattern that is selected already is not selected again
abbrev pub called : EdgeNetwork → NodeId → CustomerCall → Bool → EdgeNetwork
called network n call true = network
called network n call false = stepped network n (steps.Customer call)

-- ---- sessions

-- the sessions that are hit are unjoined, and what is in transit there is lost
abbrev pub unjoined : (NodeId → NodeId → Bool) → EdgeNetwork → EdgeNetwork
unjoined hit network =
    record network {
      direction = λ u n. record {
        joined = (network.direction u n).joined && not (hit u n);
        transit = if hit u n then [] else (network.direction u n).transit;
      };
    }

-- the session of two edges is joined
abbrev pub with_joined : NodeId → NodeId → EdgeNetwork → EdgeNetwork
with_joined a b network =
    record network {
      direction = λ u n. record (network.direction u n) { joined = (network.direction u n).joined || is_between a b u n };
    }

-- the loss of a session that is not joined is noticed at an end that is up
abbrev pub noticed : EdgeNetwork → NodeId → NodeId → Bool → Bool → EdgeNetwork
noticed network a b false true = stepped network a (steps.Noticed kinds.Bgp b)
noticed network a b joined up = network

-- Where both ends are down, the session is joined, and the ends come up one after the other: what the first one puts is in transit
-- before the second one is up.
abbrev pub raised : EdgeNetwork → NodeId → NodeId → Bool → Bool → Bool → EdgeNetwork
raised network a b false false false =
    stepped (stepped (with_joined a b network) a (steps.Raised kinds.Bgp b)) b (steps.Raised kinds.Bgp a)
raised network a b same up other_up = network

-- ---- costs

-- an edge knows another core
abbrev pub with_core : NodeId → Core → EdgeNetwork → EdgeNetwork
with_core n core network = record network { core = core_at n core network.core }

-- ---- acts

-- What may happen: the first message in transit is taken; a label message is taken, or the end of a label session comes up, or its loss
-- is noticed; a customer calls; a session is lost; its loss is noticed at one end; it is raised; an edge restarts; time passes; the timers
-- of an edge are run; and an edge takes over other costs of links, by which it knows another core.
pub data Act : Type 0 where
  Deliver : (from to : NodeId) → Act
  Label : (node neighbour : NodeId) → (message : LabelMessage) → Act
  LabelRaise : (node neighbour : NodeId) → Act
  LabelNotice : (node neighbour : NodeId) → Act
  Customer : (node : NodeId) → (call : CustomerCall) → Act
  Lose : (a b : NodeId) → Act
  Notice : (a b : NodeId) → Act
  Raise : (a b : NodeId) → Act
  Restart : (node : NodeId) → Act
  Tick : (ticks : ℕ) → Act
  Timers : (node : NodeId) → Act
  Reroute : (node : NodeId) → (core : Core) → Act

-- the network after an act
abbrev pub act : EdgeNetwork → Act → EdgeNetwork
act network (Deliver a b) = delivered network a b (a.0 == b.0) (is_up (network.node b) a) (network.direction a b).transit
act network (Label n neighbour message) = stepped network n (steps.Label neighbour message)
act network (LabelRaise n neighbour) = stepped network n (steps.Raised kinds.Ldp neighbour)
act network (LabelNotice n neighbour) = stepped network n (steps.Noticed kinds.Ldp neighbour)
act network (Customer n call) = called network n call (selects_again (network.node n) call)
act network (Lose a b) = unjoined (is_between a b) network
act network (Notice a b) =
    noticed network a b ((network.direction a b).joined || (network.direction b a).joined) (is_up (network.node a) b)
act network (Raise a b) = raised network a b (a.0 == b.0) (is_up (network.node a) b) (is_up (network.node b) a)
act network (Restart n) = let cut = unjoined (is_either n) network in record cut { node = at_node n no_control cut.node }
act network (Tick ticks) = record network { clock = network.clock + ticks }
act network (Timers n) = stepped network n steps.Timers
act network (Reroute n core) = stepped (with_core n core network) n steps.Rerouted

-- the network after a row of acts
abbrev pub run : EdgeNetwork → List Act → EdgeNetwork
run network [] = network
run network (first ∷ more) = run (act network first) more
