-- The control plane once a node has handed out what it put.
use Rattle.std.proofs.Common.{◌≡◌, ◌∙◌, refl, sym, ap, subst, ℕ, ◌<◌, inl, inr, Bool, true, false, cond, List, [], ◌++◌, length, slice_set, None}
use Rattle.mv_base.specs.Lists.{Among}
use Rattle.mv_base.specs.declared.ids.NodeId.{NodeId}
use Rattle.label_defs.proofs.KeyLemmas.{node_cases, node_equal, node_itself}
use Rattle.scenario_defs.specs.Rules.{Rules}
use Rattle.scenario_defs.specs.declared.event.Kind.{Kind}
use Rattle.scenario_defs.specs.declared.report.ReportLine.{ReportLine}
use Rattle.scenario_defs.specs.declared.scenario.Scenario.{Scenario}
use Rattle.network_defs.specs.session_defs.Octets.{OctetNetwork}
use Rattle.network_defs.specs.session_defs.System.{Put, octets_over}
use Rattle.network_defs.specs.declared.session_defs.direction.Direction.{Direction}
use Rattle.net_sessions.specs.session_transit.TransitData.{TransitData, octets_at}
use Rattle.net_sessions.specs.session_ways.Ways.{is_from, ways_from}
use Rattle.net_sessions.proofs.session_ways.WayLemmas.{made_by_ways}
use Rattle.network_defs.specs.Acts.{put_line, put_lines}
use Rattle.network_defs.specs.Costs.{Cores}
use Rattle.network_defs.specs.Counts.{direction, directions}
use Rattle.network_defs.specs.Nodes.{Nodes, core_at}
use Rattle.network_nodes.specs.wire_laws.AnyNodes.{AnyNode}
use Rattle.network_nodes.specs.wire_laws.Edges.{IsWay}
use Rattle.network_nodes.proofs.wire_laws.WayLemmas.{directions_once}
use Rattle.mldp_node.specs.NodeData.{IsWaitingTowardRoots}
use Rattle.network_nodes.specs.NodeView.{IsPlacedAt, labels_in, spent_in}
use Rattle.network_nodes.specs.declared.node.NetworkNode.{NetworkNode}
use Rattle.network_acts.specs.control_plane.Handing.{HandsOut, handed_all, handing_over, octets_line}
use Rattle.network_acts.specs.control_plane.Plane.{HasNode, IsAround, IsMidway, IsPlane, Moment}
use Rattle.network_acts.specs.control_plane.PlaneView.{PlaneView}
use Rattle.network_acts.proofs.control_plane.HandingLemmas.{Waits, goes_over, handed_at, lines_put, none_over, put_waits}
use Rattle.network_acts.proofs.control_plane.ListLemmas.{among_kept, among_passing, get_set, get_set_other, once_kept, set_length}

-- a direction over which nothing is put has no line
silent : (puts : List Put) (over : Direction) → octets_over over puts ≡ [] → put_line puts over ≡ []
silent puts over e = ap (octets_line over) e

module _ (scenario : Scenario) (cores : Cores) (moment : Moment) (n : NodeId) (puts : List Put) (network : OctetNetwork Nodes) (plane : PlaneView)
    (midway : IsMidway scenario cores moment n puts network plane) where
  abbrev ways : List Direction
  ways = ways_from n (directions scenario)

  abbrev around : IsAround scenario cores moment network plane
  around = midway.around

  -- the node that is at work
  abbrev state : AnyNode
  state = midway.own.is.state

  way_at : (kind : Kind) (peer : NodeId) → IsWay network.state.scenario (direction kind n peer) → Among (direction kind n peer) ways
  way_at kind peer way =
      among_passing (is_from n) (direction kind n peer) (directions scenario)
      (subst (λ (s : Scenario). IsWay s (direction kind n peer)) around.scenario_is way) (node_itself n n refl)

  from_node : (way : Direction) → Among way ways → way.from ≡ n
  from_node way a = node_equal way.from n (among_kept (is_from n) way (directions scenario) a).1

  waits : Waits n puts state ways
  waits = record {
    once = once_kept (is_from n) (directions scenario) (directions_once scenario (subst Rules around.scenario_is around.steady.sound.lines.rules));
    away = from_node;
    waits = λ way a.
        let from = from_node way a in
        let own : Direction = direction way.kind n way.to in
        let same : own ≡ way = λ i. record { kind = way.kind; from = sym from i; to = way.to } in
        let is_way : IsWay network.state.scenario own = subst (λ (s : Scenario). IsWay s own) (sym around.scenario_is)
        (subst (λ (d : Direction). Among d (directions scenario)) (sym same) (among_kept (is_from n) way (directions scenario) a).0) in
        put_waits n network puts state midway.own.is.at way.kind way.to is_way ∙ ap (λ (d : Direction). octets_over d puts) same;
  }

  module _ (node : NetworkNode) (transit : TransitData) (lines new_lines : List ReportLine)
      (handed : HandsOut ways state node plane.transit transit lines new_lines)
      (placed : IsPlacedAt network.state.scenario n node) (unspent : spent_in node ≡ None)
      (toward : IsWaitingTowardRoots (core_at network.state n) (labels_in node)) where
    abbrev rested : PlaneView
    rested = record plane { nodes = slice_set plane.nodes n.0 node; transit = transit }

    none_from : (over : Direction) → (over.from ≡ n → ⊥) → Among over ways → ⊥
    none_from over apart a = apart (from_node over a)

    went : (over : Direction) → (joined : Bool) → network.joined over ≡ joined
        → cond joined (octets_at plane.transit over ++ octets_over over puts) (octets_at plane.transit over)
        ≡ cond joined (octets_at plane.transit over ++ handing_over state ways over) (octets_at plane.transit over)
    went over false e = refl
    went over true e = ap (λ (l : List ℕ). octets_at plane.transit over ++ l) (sym (elim (node_cases over.from n) [
      | inl from ↦
          goes_over n puts ways state over waits
          (among_passing (is_from n) over (directions scenario)
          (subst (λ (s : Scenario). IsWay s over) around.scenario_is (around.steady.whose over e)) (node_itself over.from n from))
      | inr apart ↦ none_over n puts ways state over (none_from over apart) ∙ sym (midway.away over apart)
    ]))

    rested_around : IsAround scenario cores moment network rested
    rested_around = record {
      scenario_is = around.scenario_is;
      cores_are = around.cores_are;
      of_scenario = around.of_scenario;
      core = around.core;
      known = around.known;
      clock = around.clock;
      small = around.small;
      count = set_length plane.nodes n.0 node ∙ around.count;
      ways = around.ways;
      joined = λ over. around.joined over ∙ sym (handed.joined over);
      steady = around.steady;
    }

    has : (m : NodeId) → m.0 < length scenario.nodes → HasNode network rested.nodes m []
    has m within = elim (node_cases m n) [
      | inl same ↦ subst (λ (k : NodeId). HasNode network rested.nodes k []) (sym same) (record {
        node = node;
        at = get_set plane.nodes n.0 node (subst (λ (count : ℕ). n.0 < count) (sym around.count) midway.within);
        placed = placed;
        unspent = unspent;
        is = record {
          state = handed_all state ways;
          is = handed.is;
          at = handed_at n network puts ways state midway.own.is.at way_at;
          toward =
              toward;
        };
      })
      | inr apart ↦
          (let own = midway.nodes m apart within in
          record {
            node = own.node;
            at = get_set_other plane.nodes n.0 m.0 node (λ e. apart (λ i. record { 0 = e i })) ∙ own.at;
            placed = own.placed;
            unspent = own.unspent;
            is = own.is;
          })
    ]

    pub at_rest : IsPlane scenario cores moment network rested
    at_rest = record {
      around = rested_around;
      nodes = has;
      transit = λ over.
          midway.transit over
          ∙ (went over (network.joined over) refl
          ∙ (ap (λ (b : Bool). cond b (octets_at plane.transit over ++ handing_over state ways over) (octets_at plane.transit over))
          (around.joined over) ∙ sym (handed.octets over)));
    }

    pub told : new_lines ≡ lines ++ put_lines scenario puts
    told =
        handed.told
        ∙ ap (λ (l : List ReportLine). lines ++ l)
        (lines_put n puts ways state waits ∙ made_by_ways (put_line puts) n (directions scenario)
        (λ over apart. silent puts over (midway.away over apart)))
