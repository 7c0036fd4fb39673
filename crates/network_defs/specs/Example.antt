-- Two edges and a core node between them: their LDP sessions come up, and one of them is lost.
use Rattle.std.specs.Prelude.{ℕ, List, [], ◌∷◌, None, Some}
use Rattle.mv_base.specs.declared.ids.NodeId.{NodeId}
use Rattle.scenario_defs.specs.declared.event.Event.{Event}
use Rattle.scenario_defs.specs.declared.event.Event.TheVariants as events
use Rattle.scenario_defs.specs.declared.event.Kind.TheVariants.{Ldp}
use Rattle.scenario_defs.specs.declared.event.Timed.{Timed}
use Rattle.scenario_defs.specs.declared.report.Refusal.TheVariants as refusals
use Rattle.scenario_defs.specs.declared.report.ReportLine.{ReportLine}
use Rattle.scenario_defs.specs.declared.report.ReportLine.TheVariants as lines
use Rattle.scenario_defs.specs.declared.scenario.Scenario.{Scenario}
use Rattle.edge_defs.specs.Example as edges
use Rattle.network_defs.specs.Costs.{Cores}
use Rattle.network_defs.specs.Acts.{Act, Tick, Timers, Lose, Notice, RaiseFirst, RaiseSecond, Tell}
use Rattle.network_defs.specs.Run.{Traced, Runs}
use Rattle.network_defs.specs.World.{World, start}

-- ---- the network

abbrev pub first_edge : NodeId
first_edge = edges.first

abbrev pub second_edge : NodeId
second_edge = edges.second

abbrev pub core_node : NodeId
core_node = edges.middle

-- the network of the worked edges: two edges with links to a core node, and a VRF of one VPN at each; with few labels
abbrev pub network : Scenario
network = record edges.scenario { labels = 4 }

-- the core of the worked edges, whose costs stay as they are
abbrev pub cores : Cores
cores links = (edges.place_of edges.first).core

-- ---- events, and what happens at them

-- an event, at a line of the script
abbrev pub at : ℕ → Event → Timed
at line event = record { line = line; event = event }

-- an act at the event of that number, with its lines
abbrev pub did : ℕ → Act → List ReportLine → Traced
did number act lines = record { event = number; happened = record { act = Some act; lines = lines } }

-- the event of that number is refused
abbrev pub refused : ℕ → ReportLine → Traced
refused number line = record { event = number; happened = record { act = None; lines = line ∷ [] } }

-- the line of `state` without octets, copies and datagrams
abbrev pub state : ℕ → ℕ → List ReportLine
state due unready = lines.State 0 0 0 due unready ∷ []

-- Nothing is ready at the start. Both LDP sessions are raised, without lines, and are not ready.
abbrev pub raises : List Timed
raises =
    at 1 events.State
    ∷ at 2 (events.Raise Ldp first_edge core_node) ∷ at 3 (events.Raise Ldp second_edge core_node) ∷ at 4 events.State ∷ []

abbrev pub raised : List Traced
raised =
    did 0 Tell (state 0 3)
    ∷ did 1 (RaiseFirst Ldp first_edge core_node) []
    ∷ did 1 (RaiseSecond Ldp first_edge core_node) []
    ∷ did 2 (RaiseFirst Ldp second_edge core_node) []
    ∷ did 2 (RaiseSecond Ldp second_edge core_node) []
    ∷ did 3 Tell (state 0 3)
    ∷ []

-- After one tick more than the life of a copy the four holds are due. When they are run, the BGP session alone is not ready.
abbrev pub holds : List Timed
holds =
    at 5 (events.Tick 2)
    ∷ at 6 events.State
    ∷ at 7 (events.Tick 1)
    ∷ at 8 events.State
    ∷ at 9 (events.Timers first_edge)
    ∷ at 10 (events.Timers second_edge)
    ∷ at 11 (events.Timers core_node)
    ∷ at 12 events.State
    ∷ []

abbrev pub held : List Traced
held =
    did 4 (Tick 2) []
    ∷ did 5 Tell (state 0 3)
    ∷ did 6 (Tick 1) []
    ∷ did 7 Tell (state 4 3)
    ∷ did 8 (Timers first_edge) []
    ∷ did 9 (Timers second_edge) []
    ∷ did 10 (Timers core_node) []
    ∷ did 11 Tell (state 0 1)
    ∷ []

-- The first session is lost. It may not be raised while its ends are up; after both notices it is, and its holds begin anew.
abbrev pub losses : List Timed
losses =
    at 13 (events.Lose Ldp first_edge core_node)
    ∷ at 14 events.State
    ∷ at 15 (events.Raise Ldp first_edge core_node)
    ∷ at 16 (events.Notice Ldp first_edge core_node)
    ∷ at 17 (events.Raise Ldp first_edge core_node)
    ∷ at 18 (events.Notice Ldp core_node first_edge)
    ∷ at 19 (events.Raise Ldp first_edge core_node)
    ∷ at 20 events.State
    ∷ []

abbrev pub lost : List Traced
lost =
    did 12 (Lose Ldp first_edge core_node) []
    ∷ did 13 Tell (state 0 2)
    ∷ refused 14 (lines.Refused 15 refusals.State)
    ∷ did 15 (Notice Ldp first_edge core_node) []
    ∷ refused 16 (lines.Refused 17 refusals.State)
    ∷ did 17 (Notice Ldp core_node first_edge) []
    ∷ did 18 (RaiseFirst Ldp first_edge core_node) []
    ∷ did 18 (RaiseSecond Ldp first_edge core_node) []
    ∷ did 19 Tell (state 0 2)
    ∷ []

-- What happens, in three parts.
pub record LabelSessionsComeUp : Type 0 where
  pub up : World
  pub ready : World
  pub again : World
  pub come_up : Runs (start network cores) 0 raises raised up
  pub become_ready : Runs up 4 holds held ready
  pub come_again : Runs ready 12 losses lost again
