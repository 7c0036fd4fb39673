-- What the octets of one BGP peer make of an edge (RFC 4271 section 3.1; RFC 4364 section 4.3.1; RFC 6514 sections 9.1.2 and 12.3).
use Rattle.std.specs.Prelude.{◌≡◌, ℕ, false, List, map, fold, length, Option, None, Some}
use Rattle.std.specs.List.{filter, flat_map}
use Rattle.std.specs.FinMap as maps
use Rattle.mv_base.specs.core_walks.Core.{Core, IsCoreOf}
use Rattle.mv_base.specs.declared.ids.NodeId.{NodeId}
use Rattle.mv_base.specs.declared.table_defs.change.Change as tables
use Rattle.mv_base.specs.declared.table_defs.change.Change.TheVariants as table_changes
use Rattle.mv_base.specs.framing.Cut.{Fails, NoFault}
use Rattle.mv_base.specs.framing.Feed.{further}
use Rattle.mv_base.specs.framing.Units.{Splits}
use Rattle.mv_base.specs.table_defs.Changes.{applied_all}
use Rattle.bgp_messages.specs.declared.bgp_attributes.fault.StreamFault.{StreamFault}
use Rattle.bgp_messages.specs.declared.bgp_attributes.key.Key.{Key}
use Rattle.bgp_messages.specs.declared.bgp_attributes.update.Change.{Change}
use Rattle.bgp_messages.specs.declared.bgp_attributes.update.Change.TheVariants.{Reach, Unreach}
use Rattle.bgp_messages.specs.declared.bgp_attributes.update.Message.{Message}
use Rattle.bgp_messages.specs.bgp_update.FirstFault.{UnitFault}
use Rattle.bgp_messages.specs.bgp_update.Spelling.{SpellsMessage}
use Rattle.bgp_messages.specs.bgp_update.Table.{changes_of}
use Rattle.label_defs.specs.Members.{in_order}
use Rattle.label_defs.specs.mldp.declared.mldp_fec.fec.Fec.{Fec}
use Rattle.scenario_defs.specs.declared.event.IfaceEntry.{IfaceEntry}
use Rattle.scenario_defs.specs.declared.scenario.Scenario.{Scenario}
use Rattle.scenario_defs.specs.declared.scenario.Vrf.{Vrf}
use Rattle.network_defs.specs.mvpn_model.Messages.{own_addr}
use Rattle.edge_defs.specs.pim_defs.Entries.{Entries, applied}
use Rattle.edge_defs.specs.pim_defs.Single.{join_of}
use Rattle.edge_defs.specs.Edge.{Control, Taken, no_control}
use Rattle.edge_defs.specs.Flows.{flows_at}
use Rattle.edge_defs.specs.Imported.{is_admitted}
use Rattle.edge_defs.specs.Keys.{Table, Value}
use Rattle.edge_defs.specs.Place.{EdgePlace, OwnVrf, vrfs_from}
use Rattle.edge_defs.specs.Tunnels.{leaves}
use Rattle.probe_defs.specs.Imports.{Import, by_keys}
use Rattle.probe_defs.specs.Lines.{joins_of, octets_of}
use Rattle.probe_defs.specs.declared.probe.ProbeLine.{ProbeLine}
use Rattle.probe_defs.specs.declared.probe.ProbeReport.{ProbeReport}

-- ---- the octets

-- The octets are these messages, whole and end to end; after them no message is whole, and nothing is at fault yet, or there is the first
-- fault, at a place, where a place past the greatest number is told as that number.
abbrev pub Yield : List ℕ → List Message → Option (ℕ × StreamFault) → Type 0
Yield octets messages None = (rest : List ℕ) × Splits SpellsMessage octets messages rest × NoFault UnitFault rest
Yield octets messages (Some fault) =
    (place : ℕ) × Fails SpellsMessage UnitFault octets messages place fault.1 × (fault.0 ≡ further 0 place)

-- a change that a message makes, as one of a table
abbrev pub as_table_change : Change → tables.Change Key Value
as_table_change (Reach advert) =
    table_changes.Reach advert.key (record { next_hop = advert.next_hop; comms = advert.comms; pmsi = advert.pmsi })
as_table_change (Unreach key) = table_changes.Unreach key

-- The table that messages leave: of each key that they announced and have not withdrawn since, what they said last. A message withdraws
-- before it announces.
abbrev pub table_of : List Message → Table
table_of messages = applied_all maps.empty (map as_table_change (flat_map changes_of messages))

-- ---- what VRFs take

-- the keys of those routes of the table that have a Route Target of the VRF
abbrev pub admitted : Vrf → Table → List Key
admitted vrf table = map (λ entry. entry.0) (filter (λ (entry : Key × Value). is_admitted vrf entry.1.comms) (maps.entries table))

-- what each VRF of the edge takes, VRF after VRF
abbrev pub imports_of : Scenario → NodeId → Table → List Import
imports_of scenario edge table = flat_map (λ (own : OwnVrf). by_keys own.id (admitted own.vrf table)) (vrfs_from edge 0 scenario.vrfs)

-- ---- what the edge wants

-- the entries of customers after these joins, each a message of its own, at clock 0
abbrev pub joined : Scenario → List IfaceEntry → Entries
joined scenario joins =
    fold (λ entries at. applied entries at.iface (join_of (own_addr scenario at.iface) at.entry) 0) maps.empty joins

-- the table as it is taken at clock 0, when no delay was run
abbrev pub taken_at_once : Table → Taken
taken_at_once table =
    maps.from_entries (map (λ (entry : Key × Value). (entry.0, record { value = entry.1; since = 0; run = false })) (maps.entries table))

-- an edge that has taken this table from the peer and nothing else, and has these entries, at clock 0
abbrev pub edge_with : EdgePlace → NodeId → Table → Entries → Control
edge_with place peer table entries =
    let kept : Control = record no_control { entries = entries; peers = maps.insert maps.empty peer (taken_at_once table) } in
    record kept { flows = flows_at place 0 kept }

-- the tunnels of which that edge is a leaf
abbrev pub wants_of : EdgePlace → NodeId → Table → List IfaceEntry → List Fec
wants_of place peer table joins = in_order (leaves place (edge_with place peer table (joined place.scenario joins)))

-- ---- the report

-- What is told of the edge after the lines: with the table of the whole messages before the first fault of the octets, the routes that
-- its VRFs take, the tunnels that it wants, and that first fault. Whichever way the core is told, the tunnels are these.
pub record Probed (scenario : Scenario) (edge peer : NodeId) (lines : List ProbeLine) (report : ProbeReport) : Type 0 where
  pub messages : List Message
  pub yields : Yield (octets_of lines) messages report.fault
  pub imports : report.imports ≡ imports_of scenario edge (table_of messages)
  pub wants :
      (core : Core) → IsCoreOf (length scenario.nodes) scenario.links core →
      report.wants ≡ wants_of (record { scenario = scenario; core = core; me = edge }) peer (table_of messages) (joins_of lines)
