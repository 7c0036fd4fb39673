-- A node of the control plane hands out what it put.
use Rattle.std.proofs.Common.{◌≡◌, ◌∙◌, sym, ap, subst, ℕ, List, ◌++◌, get_or, slice_set, None, Result, Ok, Err, OnOk}
use Rattle.mv_base.specs.Lists.{Among}
use Rattle.mv_base.specs.declared.ids.NodeId.{NodeId}
use Rattle.mv_base.specs.core_walks.Core.{Core}
use Rattle.mv_base.specs.declared.memory.NoMemory.{NoMemory}
use Rattle.label_defs.proofs.KeyLemmas.{node_equal}
use Rattle.scenario_defs.specs.declared.report.ReportLine.{ReportLine}
use Rattle.scenario_defs.specs.declared.scenario.Scenario.{Scenario}
use Rattle.network_defs.specs.session_defs.Octets.{OctetNetwork}
use Rattle.network_defs.specs.session_defs.System.{Put}
use Rattle.network_defs.specs.declared.session_defs.direction.Direction.{Direction}
use Rattle.net_sessions.specs.session_transit.TransitData.{TransitData}
use Rattle.net_sessions.specs.session_ways.Ways.{is_from, ways_from}
use Rattle.network_defs.specs.Acts.{put_lines}
use Rattle.network_defs.specs.Costs.{Cores}
use Rattle.network_defs.specs.Counts.{direction, directions}
use Rattle.network_defs.specs.Nodes.{Nodes, core_at}
use Rattle.network_nodes.specs.wire_laws.AnyNodes.{AnyNode}
use Rattle.mldp_node.specs.NodeData.{IsWaitingTowardRoots}
use Rattle.network_nodes.specs.NodeView.{IsNode, IsPlacedAt, MayBePeer, labels_in, spent_in}
use Rattle.network_nodes.specs.declared.node.NetworkNode.{NetworkNode}
use Rattle.network_acts.specs.control_plane.Acted.{HandsOutAt, IsSomeMidway}
use Rattle.network_acts.specs.control_plane.Handing.{HandsOut}
use Rattle.network_acts.specs.control_plane.Plane.{IsMidway, IsPlane, Moment}
use Rattle.network_acts.specs.control_plane.PlaneView.{PlaneView}
use Rattle.network_acts.proofs.control_plane.ListLemmas.{among_kept, found}
use Rattle.network_acts.proofs.control_plane.OwnLemmas.{may_be}
use Rattle.network_acts.proofs.control_plane.RestLemmas.{at_rest, told}

module _ (n : NodeId) (plane : PlaneView) (place : ℕ) (at : place ≡ n.0) (node d : NetworkNode) (is_node : node ≡ get_or plane.nodes place d)
    (own e : List Direction)
    (are : own ≡ get_or plane.ways place e) where
  module _ (scenario : Scenario) (cores : Cores) (moment : Moment) (puts : List Put) (network : OctetNetwork Nodes)
      (midway : IsMidway scenario cores moment n puts network plane) where
    same_node : node ≡ midway.own.node
    same_node = is_node ∙ (ap (λ (k : ℕ). get_or plane.nodes k d) at ∙ found plane.nodes n.0 midway.own.node d midway.own.at)

    same_ways : own ≡ ways_from n (directions scenario)
    same_ways =
        are ∙ (ap (λ (k : ℕ). get_or plane.ways k e) at
        ∙ found plane.ways n.0 (ways_from n (directions scenario)) e (midway.around.ways n midway.within))

    peers_in : (over : Direction) → Among over own → MayBePeer node over.kind over.to
    peers_in over a =
        let kept = among_kept (is_from n) over (directions scenario) (subst (λ (l : List Direction). Among over l) same_ways a) in
        let from = node_equal over.from n kept.1 in
        let same : over ≡ direction over.kind n over.to = λ i. record { kind = over.kind; from = from i; to = over.to } in
        may_be scenario n node (subst (λ (x : NetworkNode). IsPlacedAt scenario n x) (sym same_node)
        (subst (λ (s : Scenario). IsPlacedAt s n midway.own.node) midway.around.scenario_is midway.own.placed))
        over.kind over.to (subst (λ (over' : Direction). Among over' (directions scenario)) same kept.0)

    made_in : (next : NetworkNode) (transit : TransitData) (lines new_lines : List ReportLine)
        → ((state : AnyNode) → IsNode state node → HandsOut own state next plane.transit transit lines new_lines)
        → ((scenario' : Scenario) (m : NodeId) → IsPlacedAt scenario' m node → IsPlacedAt scenario' m next) → spent_in next ≡ None
        → ((known : Core) → IsWaitingTowardRoots known (labels_in node) → IsWaitingTowardRoots known (labels_in next))
        → IsPlane scenario cores moment network (record plane { nodes = slice_set plane.nodes place next; transit = transit })
        × (new_lines ≡ lines ++ put_lines scenario puts)
    made_in next transit lines new_lines handed placed unspent waits =
        let state = midway.own.is.state in
        let hands : HandsOut (ways_from n (directions scenario)) state next plane.transit transit lines new_lines =
        subst (λ (l : List Direction). HandsOut l state next plane.transit transit lines new_lines) same_ways
        (handed state (subst (IsNode state) (sym same_node) midway.own.is.is)) in
        let stays =
        placed network.state.scenario n (subst (λ (x : NetworkNode). IsPlacedAt network.state.scenario n x) (sym same_node) midway.own.placed) in
        let toward =
        waits (core_at network.state n) (subst (λ (x : NetworkNode). IsWaitingTowardRoots (core_at network.state n) (labels_in x)) (sym same_node)
        midway.own.is.toward) in (
          subst (λ (k : ℕ). IsPlane scenario cores moment network (record plane { nodes = slice_set plane.nodes k next; transit = transit })) (sym at)
              (at_rest scenario cores moment n puts network plane midway next transit lines new_lines hands stays unspent toward),
          told scenario cores moment n puts network plane midway next transit lines new_lines hands stays unspent toward,
        )

  pub hand_peers : IsSomeMidway n plane → (over : Direction) → Among over own → MayBePeer node over.kind over.to
  hand_peers (scenario, cores, moment, puts, network, midway) = peers_in scenario cores moment puts network midway

  pub hand_unspent : IsSomeMidway n plane → spent_in node ≡ None
  hand_unspent (scenario, cores, moment, puts, network, midway) =
      ap spent_in (same_node scenario cores moment puts network midway) ∙ midway.own.unspent

  pub hand_made : (next : NetworkNode) (transit : TransitData) (lines new_lines : List ReportLine) (result : Result (Unit {0}) NoMemory)
      → OnOk result ((state : AnyNode) → IsNode state node → HandsOut own state next plane.transit transit lines new_lines)
      → ((scenario : Scenario) (m : NodeId) → IsPlacedAt scenario m node → IsPlacedAt scenario m next) → spent_in next ≡ None
      → ((known : Core) → IsWaitingTowardRoots known (labels_in node) → IsWaitingTowardRoots known (labels_in next))
      → HandsOutAt n plane (record plane { nodes = slice_set plane.nodes place next; transit = transit }) lines new_lines result
  hand_made next transit lines new_lines (Ok done) handed placed unspent waits = λ scenario cores moment puts network midway.
      made_in scenario cores moment puts network midway next transit lines new_lines handed placed unspent waits
  hand_made next transit lines new_lines (Err fault) handed placed unspent waits = tt
