-- An edge that was given the lines of a probe.
use Rattle.std.specs.Prelude.{◌≡◌, ◌<◌, ◌≤◌, ⊤, ℕ, ◌⊎◌, ◌==◌, List, [], length, map, Option, None, Some, IsSome, if◌then◌else◌}
use Rattle.std.specs.List.{AllByRecursion}
use Rattle.mv_base.specs.Octets.{IsOctets}
use Rattle.mv_base.specs.core_walks.Core.{Core, IsCoreOf}
use Rattle.mv_base.specs.core_walks.Topology.{Topology}
use Rattle.mv_base.specs.declared.addr.Addr.{Addr}
use Rattle.mv_base.specs.declared.ids.IfaceId.{IfaceId}
use Rattle.mv_base.specs.declared.ids.NodeId.{NodeId}
use Rattle.bgp_messages.specs.declared.bgp_attributes.fault.StreamFault.{StreamFault}
use Rattle.scenario_defs.specs.Rules.{Rules}
use Rattle.scenario_defs.specs.declared.scenario.Vrf.{Vrf}
use Rattle.edge_defs.specs.Keys.{Table}
use Rattle.probe_defs.specs.Probed.{admitted}
use Rattle.probe_defs.specs.Imports.{Import}
use Rattle.edge_routes.specs.edge_home.Home.{Home, place_of}
use Rattle.network_defs.specs.node_defs.EdgeState.{fresh_state}
use Rattle.probe_defs.specs.Given.{thereafter, fault_in}
use Rattle.probe_defs.specs.Lines.{IsJoinAt, IsLineAt, join_limit, joins_of, octets_of}
use Rattle.probe_defs.specs.declared.probe.ProbeLine.{ProbeLine}
use Rattle.probe_defs.specs.declared.probe.ProbeLine.TheVariants.{Join, Piece}
use Rattle.edge_core.specs.declared.fault.EdgeFault.{EdgeFault}
use Rattle.edge_core.specs.declared.fault.EdgeFault.TheVariants as faults
use Rattle.edge_streams.specs.declared.reason.SessionReason.TheVariants as reasons
use Rattle.edge_core.specs.State.{IsIn, home_of}
use Rattle.edge_core.specs.View.{EdgeView}

-- The core is that of the scenario of the edge, which meets its rules, and has a core of the definitions.
pub record IsInCore (core : Topology) (edge : EdgeView) : Type 0 where
  pub rules : Rules (home_of edge).scenario
  pub nodes : core.nodes ≡ length (home_of edge).scenario.nodes
  pub links : core.links ≡ (home_of edge).scenario.links
  pub told : (own : Core) × IsCoreOf core.nodes core.links own

-- an edge in its core before anything has happened
pub record IsFresh (core : Topology) (edge : EdgeView) : Type 0 where
  pub in_core : IsInCore core edge
  pub unspent : edge.spent ≡ None
  pub is : IsIn (fresh_state (home_of edge).scenario.labels) edge

-- An edge in its core that was given these lines, or the same octets in other pieces: it is not spent, and is that of the definitions after
-- the lines as they were given, for each core of the definitions.
pub record IsGiven (core : Topology) (peer : NodeId) (lines : List ProbeLine) (edge : EdgeView) : Type 0 where
  pub in_core : IsInCore core edge
  pub unspent : edge.spent ≡ None
  pub octets : IsOctets (octets_of lines)
  pub as_given : List ProbeLine
  pub same_octets : octets_of as_given ≡ octets_of lines
  pub same_joins : joins_of as_given ≡ joins_of lines
  pub is : (own : Core) → IsCoreOf core.nodes core.links own → IsIn (thereafter (place_of (home_of edge) own) peer as_given) edge

-- and this is the first fault of the octets
pub record IsTold (core : Topology) (peer : NodeId) (lines : List ProbeLine) (fault : Option (ℕ × StreamFault)) (edge : EdgeView) :
    Type 0 where
  pub given : IsGiven core peer lines edge
  pub fault_is : fault ≡ fault_in (octets_of lines)

-- after these lines there is room for the join, which fits the edge
pub record MayJoin (lines : List ProbeLine) (iface : IfaceId) (source group : Addr) (edge : EdgeView) : Type 0 where
  pub fits : IsJoinAt (home_of edge).scenario (home_of edge).me iface source group
  pub room : length (joins_of lines) < join_limit

-- and so for any line
abbrev pub MayGive : List ProbeLine → ProbeLine → EdgeView → Type 0
MayGive lines (Join iface source group) edge = MayJoin lines iface source group edge
MayGive lines (Piece octets) edge = ⊤

-- each join fits the edge, and there are not too many
pub record AreLinesAt (home : Home) (lines : List ProbeLine) : Type 0 where
  pub each : AllByRecursion (IsLineAt home.scenario home.me) lines
  pub few : length (joins_of lines) ≤ join_limit

-- the first fault of a BGP session that an edge answers
abbrev pub stream_fault : EdgeFault → Option (ℕ × StreamFault)
stream_fault (faults.Session peer place (reasons.Bgp fault)) = Some (place, fault)
stream_fault other = None

-- the edge is out of memory, or answers such a fault
abbrev pub IsPeerFault : EdgeFault → Type 0
IsPeerFault fault = (fault ≡ faults.NoMemory) ⊎ IsSome (stream_fault fault)

-- what the VRF of that number takes of the table, if it is one of the edge
abbrev pub taken_by : NodeId → ℕ → Vrf → Table → List Import
taken_by me number vrf table =
    if vrf.edge.0 == me.0 then map (λ key. record { vrf = record { 0 = number }; key = key }) (admitted vrf table) else []
