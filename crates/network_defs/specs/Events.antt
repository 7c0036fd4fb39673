-- The acts of each event, one after another.
use Rattle.std.specs.Prelude.{ℕ, zero, suc, ◌+◌, ◌&&◌, Bool, List, [], ◌∷◌, ◌++◌, map, find, length, replicate, Option}
use Rattle.std.specs.Prelude.{None, Some, Ok, Err, if◌then◌else◌}
use Rattle.std.specs.List.{flat_map}
use Rattle.mv_base.specs.declared.ids.NodeId.{NodeId}
use Rattle.mv_base.specs.declared.ids.SiteId.{SiteId}
use Rattle.mv_base.specs.declared.addr.Addr.{Addr}
use Rattle.scenario_defs.specs.Vpn.{entered}
use Rattle.scenario_defs.specs.declared.event.Event.{Event}
use Rattle.scenario_defs.specs.declared.event.Event.TheVariants as events
use Rattle.scenario_defs.specs.declared.event.Kind.{Kind}
use Rattle.scenario_defs.specs.declared.report.ReportLine.{ReportLine}
use Rattle.scenario_defs.specs.declared.scenario.Scenario.{Scenario}
use Rattle.mvpn_model.specs.Packet.{packet}
use Rattle.mvpn_model.specs.Sessions.{sessions}
use Rattle.label_defs.specs.Between.{is_between}
use Rattle.mvpn_model.specs.declared.session.Session.{Session}
use Rattle.scenario_defs.specs.Kinds.{same_kind}
use Rattle.network_defs.specs.declared.session_defs.direction.Direction.{Direction}
use Rattle.edge_defs.specs.Steps as steps
use Rattle.edge_defs.specs.Steps.{CustomerCall}
use Rattle.network_defs.specs.Acts.{Act, Tick, Timers, Move, Lose, Notice, RaiseFirst, RaiseSecond, Restart, At, Enter}
use Rattle.network_defs.specs.Acts.{Land, Drop, Tell, SetCost, Reroute, act}
use Rattle.network_defs.specs.Counts.{directions, link_ways, all_nodes, is_joined, is_up}
use Rattle.mvpn_model.specs.Packets.{source_in, group_in}
use Rattle.network_defs.specs.Refusals.{call_for, edge_for}
use Rattle.network_defs.specs.World.{World, scenario_of}

-- An act that happened, with its lines; a refused event has its line and no act.
pub record Happened : Type 0 where
  pub act : Option Act
  pub lines : List ReportLine

-- What comes of a row of acts: what happened, and the network after it; or what happened before an act that lacks a label, and the
-- node that lacks it.
pub data Outcome : Type 0 where
  Done : (acts : List Happened) → (world : World) → Outcome
  Halted : (acts : List Happened) → (node : NodeId) → Outcome

-- more acts after, if the first ones were done
abbrev pub and_then : Outcome → (World → Outcome) → Outcome
and_then (Halted before node) next = Halted before node
and_then (Done before world) next = elim (next world) [
  | Done thereafter new ↦ Done (before ++ thereafter) new
  | Halted thereafter node ↦ Halted (before ++ thereafter) node
]

abbrev pub one_act : World → Act → Outcome
one_act world first =
    elim (act world first) [ Ok new ↦ Done (record { act = Some first; lines = new.lines } ∷ []) new.world | Err node ↦ Halted [] node ]

-- a row of acts
abbrev pub row : List Act → World → Outcome
row [] world = Done [] world
row (first ∷ more) world = and_then (one_act world first) (row more)

-- a row of what depends on the network at its turn
abbrev pub each : {A : Type 0} → (A → World → Outcome) → List A → World → Outcome
each turn [] world = Done [] world
each turn (first ∷ more) world = and_then (turn first world) (each turn more)

-- so many rounds
abbrev pub times : (World → Outcome) → ℕ → World → Outcome
times round zero world = Done [] world
times round (suc count) world = and_then (round world) (times round count)

-- ---- raise

-- the end that is declared first comes up first
abbrev pub raise_acts : Session → List Act
raise_acts session = RaiseFirst session.kind session.a session.b ∷ RaiseSecond session.kind session.a session.b ∷ []

-- whether the session is that of the two nodes, whichever is named first
abbrev pub is_session_of : Kind → NodeId → NodeId → Session → Bool
is_session_of kind a b session = same_kind kind session.kind && is_between a b session.a session.b

abbrev pub raises : List Session → Kind → NodeId → NodeId → List Act
raises all kind a b = elim (find (is_session_of kind a b) all) [ None ↦ [] | Some session ↦ raise_acts session ]

-- ---- heal

-- an end that is up notices the loss
abbrev pub notices : World → Session → NodeId → NodeId → List Act
notices world session n peer = if is_up world session.kind n peer then Notice session.kind n peer ∷ [] else []

-- a session that is not joined is raised, when its ends have noticed that
abbrev pub healed : Session → World → Outcome
healed session world =
    if is_joined world session then Done [] world else
    row (notices world session session.a session.b ++ (notices world session session.b session.a ++ raise_acts session)) world

-- ---- settle

-- a direction moves all octets that are in transit there; without any it is passed over
abbrev pub turn : Direction → World → Outcome
turn over world =
    elim (world.network.transit over) [
      | [] ↦ Done [] world
      | octet ∷ more ↦ row (Move over.kind over.from over.to (length (octet ∷ more)) ∷ []) world
    ]

abbrev pub settled : World → Outcome
settled world =
    and_then (row (map (λ n. Timers n) (all_nodes (scenario_of world))) world)
    (times (each turn (directions (scenario_of world))) (length (scenario_of world).nodes + 3))

-- ---- drain

-- the copies that stand on a direction now land, in order
abbrev pub landings : World → NodeId × NodeId → List Act
landings world way = replicate (length (world.copies way.0 way.1)) (Land way.0 way.1 1)

abbrev pub drain_round : World → Outcome
drain_round world = row (flat_map (landings world) (link_ways (scenario_of world))) world

-- The TTL of a copy is at most 255 and falls at each landing, so after so many rounds no copy is on a link; a round without copies
-- does nothing.
abbrev pub drained : World → Outcome
drained world = times drain_round 255 world

-- ---- datagrams

-- the datagram is accepted, and enters at each VRF at which its site is attached, in order of VRFs
abbrev pub sent : SiteId → Addr → Addr → List ℕ → World → Outcome
sent site source group octets world =
    row (map (λ vrf. Enter vrf) (entered (scenario_of world) site))
    (record world { datagrams = world.datagrams ++ record { site = site; source = source; group = group; octets = octets } ∷ [] })

-- ---- costs

-- the link gets its cost for all nodes at once, and then each node in order acts on it
abbrev pub cost_acts : Scenario → NodeId → NodeId → ℕ → List Act
cost_acts scenario a b cost = SetCost a b cost ∷ map (λ n. Reroute n) (all_nodes scenario)

-- ---- events

-- a call of a customer at a node, where there is one
abbrev pub at_edge : Option NodeId → CustomerCall → World → Outcome
at_edge None call world = Done [] world
at_edge (Some n) call world = row (At n (steps.Customer call) ∷ []) world

-- what a customer calls for, where it does
abbrev pub called : Option CustomerCall → World → Outcome
called None world = Done [] world
called (Some call) world = at_edge (edge_for (scenario_of world) call) call world

-- what comes of an event that is not refused
abbrev pub done : World → Event → Outcome
done world (events.Tick count) = row (Tick count ∷ []) world
done world (events.Timers node) = row (Timers node ∷ []) world
done world (events.Restart node) = row (Restart node ∷ []) world
done world (events.Move kind from to count) = row (Move kind from to count ∷ []) world
done world (events.Lose kind a b) = row (Lose kind a b ∷ []) world
done world (events.Notice kind a b) = row (Notice kind a b ∷ []) world
done world (events.Raise kind a b) = row (raises (sessions (scenario_of world)) kind a b) world
done world (events.Customer event) = called (call_for (scenario_of world) event) world
done world (events.Send site source group payload) = sent site source group (packet source group payload) world
done world (events.Packet site octets) = sent site (source_in octets) (group_in octets) octets world
done world (events.Hop from to place) = row (Land from to place ∷ []) world
done world (events.DropCopy from to place) = row (Drop from to place ∷ []) world
done world (events.Cost a b cost) = row (cost_acts (scenario_of world) a b cost) world
done world events.Heal = each healed (sessions (scenario_of world)) world
done world events.Settle = settled world
done world events.Drain = drained world
done world events.State = row (Tell ∷ []) world
