-- The lines of a probe: the joins and the octets that they give, and what each of them meets.
use Rattle.std.specs.Prelude.{◌≡◌, ◌≢◌, ◌≤◌, ⊤, ℕ, true, length, List, [], ◌∷◌, ◌++◌}
use Rattle.std.specs.List.{AllByRecursion, list_any}
use Rattle.mv_base.specs.declared.addr.Addr.{Addr}
use Rattle.mv_base.specs.declared.ids.IfaceId.{IfaceId}
use Rattle.mv_base.specs.declared.ids.NodeId.{NodeId}
use Rattle.scenario_defs.specs.Rules.{IsEdge, IsOfIface, NamesFlow, Rules}
use Rattle.scenario_defs.specs.declared.event.IfaceEntry.{IfaceEntry}
use Rattle.scenario_defs.specs.declared.event.JoinEntry.TheVariants.{Source}
use Rattle.scenario_defs.specs.declared.scenario.Scenario.{Scenario}
use Rattle.edge_defs.specs.Originated.{is_iface_of}
use Rattle.edge_defs.specs.Place.{vrfs_from}
use Rattle.probe_defs.specs.declared.probe.ProbeLine.{ProbeLine}
use Rattle.probe_defs.specs.declared.probe.ProbeLine.TheVariants.{Join, Piece}

-- what customers join, in order
abbrev pub joins_of : List ProbeLine → List IfaceEntry
joins_of [] = []
joins_of (Join iface source group ∷ more) = record { iface = iface; entry = Source source group } ∷ joins_of more
joins_of (Piece octets ∷ more) = joins_of more

-- the octets of the peer, all pieces end to end
abbrev pub octets_of : List ProbeLine → List ℕ
octets_of [] = []
octets_of (Join iface source group ∷ more) = octets_of more
octets_of (Piece octets ∷ more) = octets ++ octets_of more

-- A join is at an interface of a VRF of the edge, and names a source and a group, of the family of the interface's address.
pub record IsJoinAt (scenario : Scenario) (edge : NodeId) (iface : IfaceId) (source group : Addr) : Type 0 where
  pub own : list_any (λ own. is_iface_of scenario own.id iface) (vrfs_from edge 0 scenario.vrfs) ≡ true
  pub names : NamesFlow source group
  pub family : IsOfIface scenario iface group

abbrev pub IsLineAt : Scenario → NodeId → ProbeLine → Type 0
IsLineAt scenario edge (Join iface source group) = IsJoinAt scenario edge iface source group
IsLineAt scenario edge (Piece octets) = ⊤

-- the most joins of a probe: an edge holds so many entries
abbrev pub join_limit : ℕ
join_limit = 1024

-- Edge and peer are two edges of the scenario, which meets its rules; each join fits, and there are not too many.
pub record IsProbe (scenario : Scenario) (edge peer : NodeId) (lines : List ProbeLine) : Type 0 where
  pub rules : Rules scenario
  pub edge_is : IsEdge scenario edge
  pub peer_is : IsEdge scenario peer
  pub two : edge.0 ≢ peer.0
  pub each : AllByRecursion (IsLineAt scenario edge) lines
  pub few : length (joins_of lines) ≤ join_limit
