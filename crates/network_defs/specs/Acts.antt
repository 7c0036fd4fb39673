-- The acts of a network, each with its lines.
use Rattle.std.specs.Prelude.{ℕ, ◌+◌, ◌-◌, ◌==◌, ◌&&◌, Bool, nat_le, List, [], ◌∷◌, ◌++◌, map, length, take}
use Rattle.std.specs.Prelude.{slice_get, Option, None, Some, Result, Ok, Err, if◌then◌else◌}
use Rattle.std.specs.List.{filter, flat_map, remove}
use Rattle.mv_base.specs.declared.ids.NodeId.{NodeId}
use Rattle.mv_base.specs.declared.ids.VrfId.{VrfId}
use Rattle.scenario_defs.specs.declared.event.Kind.{Kind}
use Rattle.scenario_defs.specs.declared.report.ReportLine.{ReportLine}
use Rattle.scenario_defs.specs.declared.report.ReportLine.TheVariants as lines
use Rattle.scenario_defs.specs.declared.scenario.Scenario.{Scenario}
use Rattle.scenario_defs.specs.declared.scenario.Vrf.{Vrf}
use Rattle.label_defs.specs.LabelData.{use_of, branches_of}
use Rattle.label_defs.specs.declared.branch.Branch.{Branch}
use Rattle.scenario_defs.specs.Kinds.{same_kind}
use Rattle.network_defs.specs.session_defs.Octets as octets
use Rattle.network_defs.specs.session_defs.Octets.{OctetAct, octet_run}
use Rattle.network_defs.specs.session_defs.System.{Put, Behind, octets_over}
use Rattle.network_defs.specs.declared.session_defs.direction.Direction.{Direction}
use Rattle.edge_defs.specs.Datagrams.{Fate, discarded, tree_of, entering_fate, arriving_fate}
use Rattle.edge_defs.specs.Place.{OwnVrf}
use Rattle.edge_defs.specs.Steps as steps
use Rattle.label_defs.specs.Between.{is_between, is_either}
use Rattle.network_defs.specs.Counts.{direction, directions, state_line}
use Rattle.network_defs.specs.Nodes.{NodeState, Edge, CoreNode, Nodes, place_of}
use Rattle.network_defs.specs.System.{NodeCall, Own, Elapse, Reset, Price, Follow, system}
use Rattle.network_defs.specs.World.{World, Datagram, LinkCopy, numbered, scenario_of, clock_of, with_copies}

-- What may happen: time passes; the timers of a node are run; octets are moved; a session is lost; its loss is noticed at one end; the
-- first end of a session comes up, and then the second; a node restarts; an edge takes a Join/Prune message, or notes a source, or
-- drops a note, or selects a pattern, or no longer selects it; the last datagram enters at a VRF; a copy lands, or is dropped; the
-- state is told; a link gets another cost; and a node acts on the present costs.
pub data Act : Type 0 where
  Tick : (ticks : ℕ) → Act
  Timers : (node : NodeId) → Act
  Move : (kind : Kind) → (from to : NodeId) → (count : ℕ) → Act
  Lose : (kind : Kind) → (a b : NodeId) → Act
  Notice : (kind : Kind) → (a b : NodeId) → Act
  RaiseFirst : (kind : Kind) → (a b : NodeId) → Act
  RaiseSecond : (kind : Kind) → (a b : NodeId) → Act
  Restart : (node : NodeId) → Act
  At : (node : NodeId) → (call : steps.Call) → Act  -- by a customer event alone
  Enter : (vrf : VrfId) → Act
  Land : (from to : NodeId) → (place : ℕ) → Act
  Drop : (from to : NodeId) → (place : ℕ) → Act
  Tell : Act
  SetCost : (a b : NodeId) → (cost : ℕ) → Act
  Reroute : (node : NodeId) → Act

-- The network after an act, and the act's lines.
pub record Acted : Type 0 where
  pub world : World
  pub lines : List ReportLine

-- ---- acts of the control plane

-- a line for a direction over which octets are put
abbrev pub put_line : List Put → Direction → List ReportLine
put_line puts over = elim (octets_over over puts) [ [] ↦ [] | octet ∷ more ↦ lines.Put over.kind over.from over.to (octet ∷ more) ∷ [] ]

-- the lines of what is put, one for each session direction, in order
abbrev pub put_lines : Scenario → List Put → List ReportLine
put_lines scenario puts = flat_map (put_line puts) (directions scenario)

-- the act's lines and the network after it, where there is one
abbrev pub with_network : World → List ReportLine → Option (Behind (octets.OctetNetwork Nodes)) → NodeId → Result Acted NodeId
with_network world before None node = Err node
with_network world before (Some new) node =
    Ok (record { world = record world { network = new.network }; lines = before ++ put_lines (scenario_of world) new.puts })

-- Acts on sessions and nodes, at a node: where one of its label steps needs more labels than are free, the act fails there.
abbrev pub at_node : World → NodeId → List ReportLine → List (OctetAct NodeCall) → Result Acted NodeId
at_node world node before acts = with_network world before (octet_run system world.network acts) node

-- whether a direction is one of the session, and whether it is one of the node
abbrev pub is_of_session : Kind → NodeId → NodeId → Direction → Bool
is_of_session kind a b over = same_kind kind over.kind && is_between a b over.from over.to

abbrev pub is_at : NodeId → Direction → Bool
is_at node over = is_either node over.from over.to

-- whether the direction leads to the node, and whether it does so within the session
abbrev pub leads_to : NodeId → Direction → Bool
leads_to node over = over.to.0 == node.0

abbrev pub is_from_peer : Kind → NodeId → NodeId → Direction → Bool
is_from_peer kind a b over = same_kind kind over.kind && (over.from.0 == b.0) && (over.to.0 == a.0)

-- ---- copies

-- a copy of the datagram of that number, on a branch
abbrev pub copy_on : World → ℕ → ℕ → Branch → LinkCopy
copy_on world ttl number branch = record { label = branch.label; ttl = ttl; put_at = clock_of world; number = number }

-- a node puts a copy on each of the branches, in order
abbrev pub with_branches : NodeId → ℕ → ℕ → List Branch → World → World
with_branches node ttl number [] world = world
with_branches node ttl number (branch ∷ more) world =
    with_branches node ttl number more
    (with_copies node branch.node (world.copies node branch.node ++ copy_on world ttl number branch ∷ []) world)

abbrev pub hop_line : NodeId → ℕ → ℕ → Branch → ReportLine
hop_line node ttl number branch = lines.Hop node branch.node branch.label ttl number

-- the datagram leaves at interfaces, and goes on branches
abbrev pub fated : World → NodeId → ℕ → ℕ → List ℕ → List ReportLine → Fate → Acted
fated world node ttl number octets before fate = record {
  world = with_branches node ttl number fate.branches world;
  lines = before ++ (map (λ iface. lines.Out number iface octets) fate.outs ++ map (hop_line node ttl number) fate.branches);
}

-- the datagram of that number
abbrev pub datagram_at : World → ℕ → Option Datagram
datagram_at world number = numbered world.datagrams number

-- the last datagram enters at a VRF of an edge
abbrev pub enters_at : World → OwnVrf → NodeState → Datagram → Acted
enters_at world own (Edge edge) datagram =
    fated world own.vrf.edge 255 (length world.datagrams) datagram.octets []
    (entering_fate (place_of world.network.state own.vrf.edge) (clock_of world) edge own datagram.site datagram.source datagram.group)
enters_at world own (CoreNode part) datagram = record { world = world; lines = [] }

abbrev pub entering : World → VrfId → Option Vrf → Option Datagram → Acted
entering world id (Some vrf) (Some datagram) = enters_at world (record { id = id; vrf = vrf }) (world.network.state.node vrf.edge) datagram
entering world id vrf datagram = record { world = world; lines = [] }

-- what a node does with a copy of a datagram that comes from a neighbour under a label
abbrev pub fate_at : World → NodeId → NodeState → NodeId → ℕ → Datagram → Fate
fate_at world n (Edge edge) from label datagram =
    arriving_fate (place_of world.network.state n) (clock_of world) edge from label datagram.source datagram.group
fate_at world n (CoreNode part) from label datagram =
    elim (tree_of from (use_of part label)) [ None ↦ discarded | Some fec ↦ record { outs = []; branches = branches_of part fec } ]

-- a copy whose TTL is 1 is not sent on
abbrev pub with_ttl : ℕ → Fate → Fate
with_ttl ttl fate = if nat_le ttl 1 then record fate { branches = [] } else fate

abbrev pub landed : World → NodeId → NodeId → LinkCopy → Option Datagram → Acted
landed world from to copy None = record { world = world; lines = [] }
landed world from to copy (Some datagram) =
    fated world to (copy.ttl - 1) copy.number datagram.octets (lines.Land from to copy.label copy.number ∷ [])
    (with_ttl copy.ttl (fate_at world to (world.network.state.node to) from copy.label datagram))

-- the copy at that place, counted from 1, leaves its link
abbrev pub without_copy : World → NodeId → NodeId → ℕ → World
without_copy world from to place = with_copies from to (remove (world.copies from to) (place - 1)) world

abbrev pub landing : World → NodeId → NodeId → ℕ → Option LinkCopy → Acted
landing world from to place None = record { world = world; lines = [] }
landing world from to place (Some copy) = landed (without_copy world from to place) from to copy (datagram_at world copy.number)

-- ---- acts

-- the copies that have been on their links for longer than they may are removed
abbrev pub aged : World → World
aged world =
    record world { copies = λ u n. filter (λ copy. nat_le (clock_of world) (copy.put_at + (scenario_of world).life)) (world.copies u n) }

abbrev pub with_aged : Result Acted NodeId → Result Acted NodeId
with_aged (Err node) = Err node
with_aged (Ok new) = Ok (record new { world = aged new.world })

-- The network after an act, or the node that lacks a label. Time passes and costs change at no node, and never lack one.
abbrev pub act : World → Act → Result Acted NodeId
act world (Tick ticks) = with_aged (at_node world (record { 0 = 0 }) [] (octets.Call (Elapse ticks) ∷ []))
act world (Timers n) = at_node world n [] (octets.Call (Own n steps.Timers) ∷ [])
act world (Move kind from to count) =
    at_node world to (lines.Take kind from to (take count (world.network.transit (direction kind from to))) ∷ [])
    (octets.Move (direction kind from to) count ∷ [])
act world (Lose kind a b) = at_node world a [] (octets.Lose (is_of_session kind a b) ∷ [])
act world (Notice kind a b) = at_node world a [] (octets.Forget (is_from_peer kind a b) ∷ octets.Call (Own a (steps.Noticed kind b)) ∷ [])
act world (RaiseFirst kind a b) = at_node world a [] (octets.Join (is_of_session kind a b) ∷ octets.Call (Own a (steps.Raised kind b)) ∷ [])
act world (RaiseSecond kind a b) = at_node world b [] (octets.Call (Own b (steps.Raised kind a)) ∷ [])
act world (Restart n) = at_node world n [] (octets.Lose (is_at n) ∷ octets.Forget (leads_to n) ∷ octets.Call (Reset n) ∷ [])
act world (At n call) = at_node world n [] (octets.Call (Own n call) ∷ [])
act world (Enter vrf) = Ok (entering world vrf (slice_get (scenario_of world).vrfs vrf.0) (datagram_at world (length world.datagrams)))
act world (Land from to place) = Ok (landing world from to place (slice_get (world.copies from to) (place - 1)))
act world (Drop from to place) = Ok (record { world = without_copy world from to place; lines = [] })
act world Tell = Ok (record { world = world; lines = state_line world ∷ [] })
act world (SetCost a b cost) = at_node world a [] (octets.Call (Price a b cost) ∷ [])
act world (Reroute n) = at_node world n [] (octets.Call (Follow n) ∷ [])
