-- The sessions of a network, in their order.
use Rattle.std.specs.Prelude.{ℕ, ◌+◌, List, [], ◌∷◌, ◌++◌, map, if◌then◌else◌}
use Rattle.mv_base.specs.declared.ids.NodeId.{NodeId}
use Rattle.mv_base.specs.declared.core_link.Link.{Link}
use Rattle.scenario_defs.specs.declared.event.Kind.TheVariants as kinds
use Rattle.scenario_defs.specs.declared.scenario.Node.{Node}
use Rattle.scenario_defs.specs.declared.scenario.Scenario.{Scenario}
use Rattle.mvpn_model.specs.declared.session.Session.{Session}

-- the numbers of those of the nodes, numbered from that one on, that are edges
abbrev pub edges_from : ℕ → List Node → List NodeId
edges_from number [] = []
edges_from number (node ∷ more) = if node.edge then record { 0 = number } ∷ edges_from (number + 1) more else edges_from (number + 1) more

-- the edges of a scenario, in order of declaration
abbrev pub edges : Scenario → List NodeId
edges scenario = edges_from 0 scenario.nodes

-- the session over BGP of two edges
abbrev pub bgp_session : NodeId → NodeId → Session
bgp_session a b = record { kind = kinds.Bgp; a = a; b = b }

-- a session for each two of the edges, by the first and then by the second (RFC 4364 section 4.3.2)
abbrev pub bgp_sessions : List NodeId → List Session
bgp_sessions [] = []
bgp_sessions (a ∷ later) = map (bgp_session a) later ++ bgp_sessions later

-- the session over LDP of a link (RFC 5036 section 2.2.3)
abbrev pub ldp_session : Link → Session
ldp_session link = record { kind = kinds.Ldp; a = link.a; b = link.b }

-- the sessions of a scenario: first those over BGP, then one over LDP for each link
abbrev pub sessions : Scenario → List Session
sessions scenario = bgp_sessions (edges scenario) ++ map ldp_session scenario.links
