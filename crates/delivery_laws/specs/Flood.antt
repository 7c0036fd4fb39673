-- How often a datagram is written at an interface by the copies on links, if all of them land.
use Rattle.std.specs.Prelude.{◌≡◌, ◌<◌, ◌≤◌, true, ℕ, zero, suc, ◌+◌, ◌==◌, ◌&&◌, Bool, List, [], Option, None, Some}
use Rattle.std.specs.Prelude.{length, slice_get, sum_by, count_by, if◌then◌else◌}
use Rattle.std.specs.List.{flat_map, AllByRecursion}
use Rattle.std.specs.FinSet as sets
use Rattle.mv_base.specs.declared.ids.IfaceId.{IfaceId}
use Rattle.mv_base.specs.declared.ids.NodeId.{NodeId}
use Rattle.mv_base.specs.declared.ids.VrfId.{VrfId}
use Rattle.label_defs.specs.declared.branch.Branch.{Branch}
use Rattle.scenario_defs.specs.Vpn.{entered}
use Rattle.scenario_defs.specs.declared.report.ReportLine.{ReportLine}
use Rattle.scenario_defs.specs.declared.scenario.Scenario.{Scenario}
use Rattle.scenario_defs.specs.declared.scenario.Vrf.{Vrf}
use Rattle.network_defs.specs.session_defs.Octets.{OctetNetwork}
use Rattle.edge_defs.specs.Datagrams.{Fate, discarded, entering_fate}
use Rattle.mvpn_model.specs.Report.{is_out_at}
use Rattle.network_defs.specs.Acts.{fate_at, with_ttl}
use Rattle.network_defs.specs.Counts.{link_ways}
use Rattle.network_defs.specs.Events.{Happened}
use Rattle.network_defs.specs.Nodes.{NodeState, Edge, CoreNode, Nodes, part_of, place_of}
use Rattle.network_defs.specs.World.{World, Datagram, LinkCopy}

-- What becomes of a copy: from which neighbour it comes, at which node, and under which label.
abbrev pub Fates : Type 0
Fates = NodeId → NodeId → ℕ → Fate

-- how often the interface is among those
abbrev pub times_at : IfaceId → List IfaceId → ℕ
times_at iface ifaces = count_by (λ own. own.0 == iface.0) ifaces

-- How often a copy with that TTL and all that comes of it are written at the interface.
abbrev pub written_below : Fates → IfaceId → ℕ → NodeId → NodeId → ℕ → ℕ
written_below fates iface zero from to label = times_at iface (fates from to label).outs
written_below fates iface (suc ttl) from to label =
    times_at iface (fates from to label).outs
    + sum_by (λ branch. written_below fates iface ttl to branch.node branch.label) (with_ttl (suc ttl) (fates from to label)).branches

-- the network with nothing on its links
abbrev pub bare : OctetNetwork Nodes → World
bare network = record { network = network; copies = λ u n. []; datagrams = [] }

-- what the nodes of a network do with the copies of a datagram
abbrev pub fates_in : OctetNetwork Nodes → Datagram → Fates
fates_in network datagram from to label = fate_at (bare network) to (network.state.node to) from label datagram

-- ---- copies on links

-- what a copy on a link owes, where it is one of the datagram of that number
abbrev pub owed_by : Fates → ℕ → IfaceId → NodeId → NodeId → LinkCopy → ℕ
owed_by fates number iface from to copy = if copy.number == number then written_below fates iface copy.ttl from to copy.label else 0

-- a sum over the copies on the directions
abbrev pub total : (NodeId → NodeId → LinkCopy → ℕ) → List (NodeId × NodeId) → (NodeId → NodeId → List LinkCopy) → ℕ
total weight ways copies = sum_by (λ way. sum_by (weight way.0 way.1) (copies way.0 way.1)) ways

-- whether a direction is that one
abbrev pub is_way : NodeId → NodeId → NodeId × NodeId → Bool
is_way from to way = (way.0.0 == from.0) && (way.1.0 == to.0)

-- A copy is on a direction of the links, it is one of a datagram that was accepted, and its TTL is 1 to 255.
pub record SoundCopy (ways : List (NodeId × NodeId)) (count : ℕ) (from to : NodeId) (copy : LinkCopy) : Type 0 where
  pub on_way : count_by (is_way from to) ways ≡ 1
  pub counted : 0 < copy.number
  pub known : copy.number ≤ count
  pub alive : 0 < copy.ttl
  pub bounded : copy.ttl ≤ 255

-- each copy is sound, by the links of the scenario
abbrev pub AreSound : Scenario → World → Type 0
AreSound scenario world =
    (from to : NodeId) → AllByRecursion (SoundCopy (link_ways scenario) (length world.datagrams) from to) (world.copies from to)

-- each branch of a node leads along one link
abbrev pub OnLinks : OctetNetwork Nodes → Type 0
OnLinks network =
    (n : NodeId) (branch : Branch) → sets.contains (part_of (network.state.node n)).branches branch ≡ true
    → count_by (is_way n branch.node) (link_ways network.state.scenario) ≡ 1

-- ---- a datagram that enters

-- where a datagram goes that enters at a VRF
abbrev pub fate_of_entry : OctetNetwork Nodes → Datagram → VrfId → Vrf → NodeState → Fate
fate_of_entry network datagram id vrf (Edge edge) =
    entering_fate (place_of network.state vrf.edge) network.state.clock edge (record { id = id; vrf = vrf })
    datagram.site datagram.source datagram.group
fate_of_entry network datagram id vrf (CoreNode part) = discarded

-- how often a datagram that goes there from a node, and all that comes of it, are written at the interface
abbrev pub written_by : OctetNetwork Nodes → Datagram → IfaceId → NodeId → Fate → ℕ
written_by network datagram iface node fate =
    times_at iface fate.outs
    + sum_by (λ branch. written_below (fates_in network datagram) iface 255 node branch.node branch.label) fate.branches

-- how often a datagram that enters at a VRF, and all that comes of it, are written at the interface
abbrev pub written_from : OctetNetwork Nodes → Datagram → IfaceId → VrfId → Option Vrf → ℕ
written_from network datagram iface id None = 0
written_from network datagram iface id (Some vrf) =
    written_by network datagram iface vrf.edge (fate_of_entry network datagram id vrf (network.state.node vrf.edge))

-- how often a datagram that is sent, and all that comes of it, are written at the interface
abbrev pub written_of : OctetNetwork Nodes → Datagram → IfaceId → ℕ
written_of network datagram iface =
    sum_by (λ vrf. written_from network datagram iface vrf (slice_get network.state.scenario.vrfs vrf.0))
    (entered network.state.scenario datagram.site)

-- ---- lines

abbrev pub lines_in : List Happened → List ReportLine
lines_in acts = flat_map (λ happened. happened.lines) acts

-- how often the datagram of that number left at the interface
abbrev pub outs_in : ℕ → IfaceId → List ReportLine → ℕ
outs_in number iface lines = count_by (is_out_at number iface) lines
