-- Networks whose calm lines tell of calm nodes, by the receivers that the events tell.
use Rattle.std.specs.Prelude.{◌≡◌, ℕ, ◌==◌, Bool, List, map, take}
use Rattle.std.specs.List.{list_any}
use Rattle.mv_base.specs.declared.addr.Addr.{Addr}
use Rattle.mv_base.specs.declared.ids.IfaceId.{IfaceId}
use Rattle.mv_base.specs.declared.ids.SiteId.{SiteId}
use Rattle.scenario_defs.specs.declared.event.Event.{Event}
use Rattle.scenario_defs.specs.declared.event.Script.{Script}
use Rattle.scenario_defs.specs.declared.event.Timed.{Timed}
use Rattle.scenario_defs.specs.declared.report.ReportLine.TheVariants as lines
use Rattle.scenario_defs.specs.declared.scenario.Scenario.{Scenario}
use Rattle.mvpn_model.specs.Past.{Past, receivers}
use Rattle.mvpn_model.specs.Report.{Datagram as Accepted, refused_lines, sent_by}
use Rattle.network_defs.specs.Costs.{Cores}
use Rattle.network_defs.specs.Counts.{state_line}
use Rattle.network_defs.specs.Run.{Traced, Run, report_of}
use Rattle.network_defs.specs.World.{World, Datagram}
use Rattle.delivery_laws.specs.Choice.{CalmChoice}
use Rattle.delivery_laws.specs.Calm.{CalmFlow, CalmWorld}

-- a datagram that was accepted, as the network has it
abbrev pub in_network : Accepted → Datagram
in_network accepted =
    record { site = accepted.site; source = accepted.source; group = accepted.group; octets = accepted.octets }

-- the datagrams that an event brings into the network, if it is accepted
abbrev pub brought_by : Event → List Datagram
brought_by event = map in_network (sent_by 0 event)

-- what the events and what happened in them tell
abbrev pub past_of : Scenario → List Timed → List Traced → Past
past_of scenario events trace = record { scenario = scenario; events = events; refused = refused_lines (report_of trace) }

-- whether the interface receives the flow from the site
abbrev pub receives_by : Past → SiteId → Addr → Addr → IfaceId → Bool
receives_by past site source group iface = list_any (λ receiver. receiver.0 == iface.0) (receivers past site source group)

-- whether it receives the datagram
abbrev pub receives_datagram : Past → Datagram → IfaceId → Bool
receives_datagram past datagram = receives_by past datagram.site datagram.source datagram.group

-- After the first events of a run, wherever `state` would tell of zeros alone, the network is calm, by the receivers of those events.
abbrev pub ZerosAreCalm : Cores → Script → List Timed → Type 0
ZerosAreCalm cores script events =
    (count : ℕ) (trace : List Traced) (world : World) →
    Run cores script (take count events) trace world → state_line world ≡ lines.State 0 0 0 0 0 →
    CalmWorld (receives_by (past_of script.scenario (take count events) trace)) world

-- The same of the flow of each datagram.
abbrev pub FlowsAreCalm : Cores → Script → List Timed → Type 0
FlowsAreCalm cores script events =
    (count : ℕ) (trace : List Traced) (world : World) →
    Run cores script (take count events) trace world → state_line world ≡ lines.State 0 0 0 0 0 →
    (datagram : Datagram) →
    CalmFlow world.network (receives_datagram (past_of script.scenario (take count events) trace) datagram) datagram

-- The same, where the tunnels of each flow are trees, and each receiver is served once.
abbrev pub ChoicesAreCalm : Cores → Script → List Timed → Type 0
ChoicesAreCalm cores script events =
    (count : ℕ) (trace : List Traced) (world : World) →
    Run cores script (take count events) trace world → state_line world ≡ lines.State 0 0 0 0 0 →
    (datagram : Datagram) →
    CalmChoice world.network (receives_datagram (past_of script.scenario (take count events) trace) datagram) datagram
