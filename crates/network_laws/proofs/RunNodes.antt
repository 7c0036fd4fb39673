-- The ends of sessions, and the edges of interfaces and VRFs, are nodes of the scenario.
use Rattle.std.specs.Prelude.{option_map}
use Rattle.std.proofs.Common.{◌≡◌, ◌<◌, ◌≤◌, ◌+◌, ℕ, zero, suc, true, false, cond, map, slice_get, List, [], ◌∷◌, length, Option, Some, None, refl, arith}
use Rattle.std.specs.List.{AllByRecursion}
use Rattle.std.proofs.lemmas.List.Elements.{recursion_from_All}
use Rattle.std.proofs.lemmas.Option.{slice_get_within}
use Rattle.mv_base.specs.declared.ids.IfaceId.{IfaceId}
use Rattle.mv_base.specs.declared.ids.NodeId.{NodeId}
use Rattle.mv_base.specs.declared.ids.VrfId.{VrfId}
use Rattle.mv_base.specs.core_walks.Topology.{HasEnds}
use Rattle.scenario_defs.proofs.RuleLemmas.{vrf_rules_at}
use Rattle.scenario_defs.specs.Vpn.{edge_of}
use Rattle.scenario_defs.specs.declared.scenario.Iface.{Iface}
use Rattle.scenario_defs.specs.declared.scenario.Node.{Node}
use Rattle.scenario_defs.specs.declared.scenario.Scenario.{Scenario}
use Rattle.scenario_defs.specs.declared.scenario.Vrf.{Vrf}
use Rattle.network_defs.specs.mvpn_model.Sessions.{sessions, edges, edges_from, bgp_session, bgp_sessions, ldp_session}
use Rattle.network_defs.specs.mvpn_model.declared.session.Session.{Session}
use Rattle.network_defs.specs.Counts.{node_ids}
use Rattle.network_defs.specs.Refusals.{edge_of_vrf}
use Rattle.network_laws.specs.Sound.{SoundScenario}
use Rattle.network_laws.proofs.Lists.{each_append, each_map, each_weaker}

abbrev pub IsNode : Scenario → NodeId → Type 0
IsNode scenario n = n.0 < length scenario.nodes

-- the ends of a session are nodes
abbrev pub HasNodes : Scenario → Session → Type 0
HasNodes scenario session = IsNode scenario session.a × IsNode scenario session.b

edges_within : (number : ℕ) (nodes : List Node) (count : ℕ) → number + length nodes ≤ count
    → AllByRecursion (λ (n : NodeId). n.0 < count) (edges_from number nodes)
edges_within number [] count le = tt
edges_within number (node ∷ more) count le =
    let rest = edges_within (number + 1) more count (omega (arith, le)) in
    elim node.edge as (λ b. AllByRecursion (λ (n : NodeId). n.0 < count)
    (cond b (record { 0 = number } ∷ edges_from (number + 1) more) (edges_from (number + 1) more))) [
      | true ↦ (omega (arith, le), rest)
      | false ↦ rest
    ]

pairs_within : (scenario : Scenario) (all : List NodeId) → AllByRecursion (IsNode scenario) all
    → AllByRecursion (HasNodes scenario) (bgp_sessions all)
pairs_within scenario [] within = tt
pairs_within scenario (a ∷ later) within =
    each_append (HasNodes scenario) (map (bgp_session a) later) (bgp_sessions later)
    (each_map (HasNodes scenario) (bgp_session a) later
    (each_weaker (IsNode scenario) (λ b. HasNodes scenario (bgp_session a b)) (λ b is. (within.0, is)) later within.1))
    (pairs_within scenario later within.1)

pub sessions_within : (scenario : Scenario) → SoundScenario scenario → AllByRecursion (HasNodes scenario) (sessions scenario)
sessions_within scenario sound =
    each_append (HasNodes scenario) (bgp_sessions (edges scenario)) (map ldp_session scenario.links)
    (pairs_within scenario (edges scenario) (edges_within 0 scenario.nodes (length scenario.nodes) (omega arith)))
    (each_map (HasNodes scenario) ldp_session scenario.links
    (each_weaker (HasEnds (length scenario.nodes)) (λ link. HasNodes scenario (ldp_session link)) (λ link ends. (ends.a, ends.b)) scenario.links
    (recursion_from_All (HasEnds (length scenario.nodes)) scenario.links sound.rules.core.topology.ends)))

pub nodes_within : (number count all : ℕ) → number + count ≤ all → AllByRecursion (λ (n : NodeId). n.0 < all) (node_ids number count)
nodes_within number zero all le = tt
nodes_within number (suc count) all le = (omega (arith, le), nodes_within (number + 1) count all (omega (arith, le)))

-- the node that is found, if one is
abbrev pub IsFoundNode : Scenario → Option NodeId → Type 0
IsFoundNode scenario None = Unit {0}
IsFoundNode scenario (Some n) = IsNode scenario n

vrf_edge_within : (scenario : Scenario) → SoundScenario scenario → (v : ℕ) (vrf : Vrf) → slice_get scenario.vrfs v ≡ Some vrf
    → IsNode scenario vrf.edge
vrf_edge_within scenario sound v vrf e =
    (let edge = (vrf_rules_at scenario sound.rules v vrf e).edge in slice_get_within scenario.nodes vrf.edge.0 edge.node edge.at)

pub edge_within : (scenario : Scenario) → SoundScenario scenario → (iface : IfaceId) → IsFoundNode scenario (edge_of scenario iface)
edge_within scenario sound iface = by (slice_get scenario.ifaces iface.0)
  where
    of_vrf : (v : ℕ) (o : Option Vrf) → slice_get scenario.vrfs v ≡ o → IsFoundNode scenario (option_map (λ (vrf : Vrf). vrf.edge) o)
    of_vrf v None e = tt
    of_vrf v (Some vrf) e = vrf_edge_within scenario sound v vrf e

    by : (o : Option Iface) → IsFoundNode scenario
        (elim o [ None ↦ None | Some found ↦ option_map (λ (vrf : Vrf). vrf.edge) (slice_get scenario.vrfs found.vrf.0) ])
    by None = tt
    by (Some found) = of_vrf found.vrf.0 (slice_get scenario.vrfs found.vrf.0) refl

pub vrf_within : (scenario : Scenario) → SoundScenario scenario → (vrf : VrfId) → IsFoundNode scenario (edge_of_vrf scenario vrf)
vrf_within scenario sound vrf = by (slice_get scenario.vrfs vrf.0) refl
  where
    by : (o : Option Vrf) → slice_get scenario.vrfs vrf.0 ≡ o → IsFoundNode scenario (elim o [ None ↦ None | Some found ↦ Some found.edge ])
    by None e = tt
    by (Some found) e = vrf_edge_within scenario sound vrf.0 found e
