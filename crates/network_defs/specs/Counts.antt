-- What `state` counts.
use Rattle.std.specs.Prelude.{ℕ, zero, suc, ◌+◌, ◌==◌, ◌&&◌, Bool, true, false, not, List, [], ◌∷◌, length, sum_by, count_by, if◌then◌else◌}
use Rattle.std.specs.List.{flat_map, list_any}
use Rattle.std.specs.FinMap as maps
use Rattle.mv_base.specs.declared.ids.NodeId.{NodeId}
use Rattle.scenario_defs.specs.declared.event.Kind.{Kind}
use Rattle.scenario_defs.specs.declared.event.Kind.TheVariants as kinds
use Rattle.scenario_defs.specs.declared.report.ReportLine.{ReportLine}
use Rattle.scenario_defs.specs.declared.report.ReportLine.TheVariants as lines
use Rattle.scenario_defs.specs.declared.scenario.Scenario.{Scenario}
use Rattle.label_defs.specs.LabelData as labels
use Rattle.network_defs.specs.declared.session_defs.direction.Direction.{Direction}
use Rattle.edge_defs.specs.Due as edges
use Rattle.mvpn_model.specs.Sessions.{sessions}
use Rattle.mvpn_model.specs.declared.session.Session.{Session}
use Rattle.network_defs.specs.Nodes.{NodeState, Edge, CoreNode, Nodes, part_of, place_of, label_place_of}
use Rattle.network_defs.specs.World.{World, LinkCopy, scenario_of}

-- ---- sessions

abbrev pub direction : Kind → NodeId → NodeId → Direction
direction kind from to = record { kind = kind; from = from; to = to }

-- both directions of a session, that from its first end first
abbrev pub directions_of : Session → List Direction
directions_of session = direction session.kind session.a session.b ∷ direction session.kind session.b session.a ∷ []

-- the directions of all sessions, in order
abbrev pub directions : Scenario → List Direction
directions scenario = flat_map directions_of (sessions scenario)

-- whether the session is joined
abbrev pub is_joined : World → Session → Bool
is_joined world session = world.network.joined (direction session.kind session.a session.b)

-- whether the end of a node is up, over BGP or LDP
abbrev pub is_bgp_up : NodeState → NodeId → Bool
is_bgp_up (Edge edge) peer = maps.contains_key edge.control.peers peer
is_bgp_up (CoreNode part) peer = false

abbrev pub is_end_up : Kind → NodeState → NodeId → Bool
is_end_up kinds.Bgp node peer = is_bgp_up node peer
is_end_up kinds.Ldp node peer = labels.is_up (part_of node) peer

-- whether the node's end of the session with the peer is up
abbrev pub is_up : World → Kind → NodeId → NodeId → Bool
is_up world kind n peer = is_end_up kind (world.network.state.node n) peer

-- whether the hold of both ends of an LDP session was run
abbrev pub are_held : World → Session → Bool
are_held world session =
    labels.is_ready (part_of (world.network.state.node session.a)) session.b
    && labels.is_ready (part_of (world.network.state.node session.b)) session.a

-- whether a session is ready: it is joined, and the holds of an LDP session were run
abbrev pub is_ready : World → Session → Bool
is_ready world session = is_joined world session && elim session.kind [ kinds.Bgp ↦ true | kinds.Ldp ↦ are_held world session ]

-- ---- the five numbers

-- the octets in transit
abbrev pub octets_in_transit : World → ℕ
octets_in_transit world = sum_by (λ over. length (world.network.transit over)) (directions (scenario_of world))

-- the directions of links, in order of links, that from its first end first
abbrev pub link_ways : Scenario → List (NodeId × NodeId)
link_ways scenario = flat_map (λ link. (link.a, link.b) ∷ (link.b, link.a) ∷ []) scenario.links

-- the copies on links
abbrev pub all_copies : World → List LinkCopy
all_copies world = flat_map (λ way. world.copies way.0 way.1) (link_ways (scenario_of world))

-- how many of the datagrams up to that number have a copy on a link
abbrev pub datagrams_with_copy : List LinkCopy → ℕ → ℕ
datagrams_with_copy copies zero = 0
datagrams_with_copy copies (suc number) =
    datagrams_with_copy copies number + (if list_any (λ copy. copy.number == suc number) copies then 1 else 0)

-- the timers of a node that are due
abbrev pub node_due : Nodes → NodeId → ℕ
node_due nodes n = elim (nodes.node n) [
  | Edge edge ↦ edges.due (place_of nodes n) nodes.clock edge
  | CoreNode part ↦ labels.due (label_place_of nodes n) nodes.clock part
]

-- the numbers from that one on, so many
abbrev pub node_ids : ℕ → ℕ → List NodeId
node_ids number zero = []
node_ids number (suc count) = record { 0 = number } ∷ node_ids (number + 1) count

-- the nodes of a scenario, in order
abbrev pub all_nodes : Scenario → List NodeId
all_nodes scenario = node_ids 0 (length scenario.nodes)

abbrev pub due_timers : World → ℕ
due_timers world = sum_by (node_due world.network.state) (all_nodes (scenario_of world))

abbrev pub unready : World → ℕ
unready world = count_by (λ session. not (is_ready world session)) (sessions (scenario_of world))

-- the line of `state`
abbrev pub state_line : World → ReportLine
state_line world =
    lines.State (octets_in_transit world) (length (all_copies world))
    (datagrams_with_copy (all_copies world) (length world.datagrams)) (due_timers world) (unready world)
