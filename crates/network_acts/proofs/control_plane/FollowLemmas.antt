-- A node that acts on the present costs, as an act of the control plane.
use Rattle.std.proofs.Common.{◌≡◌, ◌∙◌, refl, sym, subst, ℕ, ◌<◌, ◌==◌, Bool, true, false, cond, List, [], ◌∷◌, ◌++◌, length, slice_get, slice_set, get_or, Some, None, Result, Ok, Err, OnOk}
use Rattle.std.proofs.lemmas.Option.{same_Some}
use Rattle.mv_base.specs.declared.ids.NodeId.{NodeId}
use Rattle.mv_base.specs.core_walks.Core.{Core, IsCoreOf}
use Rattle.mv_base.specs.core_walks.Topology.{Topology}
use Rattle.label_defs.proofs.KeyLemmas.{node_apart, node_itself}
use Rattle.mldp_node.specs.NodeData.{IsWaitingTowardRoots, WaitsTowardRootsOf}
use Rattle.scenario_defs.specs.declared.report.ReportLine.{ReportLine}
use Rattle.scenario_defs.specs.declared.scenario.Scenario.{Scenario}
use Rattle.network_defs.specs.session_defs.Octets as octets
use Rattle.network_defs.specs.session_defs.Octets.{OctetAct, OctetNetwork, octet_act, octet_run}
use Rattle.network_defs.specs.session_defs.System.{Behind}
use Rattle.edge_defs.specs.Steps.{Rerouted}
use Rattle.mldp_node.specs.declared.fault.NodeFault.{NodeFault}
use Rattle.network_defs.specs.Acts as acts
use Rattle.network_defs.specs.Costs.{AreRepriced, Cores}
use Rattle.network_defs.specs.Nodes.{Nodes, core_at, following}
use Rattle.network_defs.specs.System.{NodeCall, Follow, system}
use Rattle.network_laws.proofs.RunActs.{act_stays}
use Rattle.network_nodes.specs.wire_laws.AnyNodes as any
use Rattle.network_nodes.specs.wire_laws.AnyNodes.{AnyNode, IsElsewhere, IsNodeAt, node_after, with_known}
use Rattle.network_nodes.proofs.wire_laws.AnyNodeLemmas.{follow_lacks, follow_made}
use Rattle.network_nodes.proofs.wire_laws.EndLemmas.{follows_ends}
use Rattle.network_nodes.specs.Answers.{Answers, Stands, after}
use Rattle.network_nodes.specs.Faults as faults
use Rattle.network_nodes.specs.Faults.{EdgeFault}
use Rattle.network_nodes.specs.NodeView.{IsNode, IsPlacedAt, labels_in, spent_in}
use Rattle.network_nodes.specs.declared.node.NetworkNode.{NetworkNode}
use Rattle.network_acts.specs.control_plane.Acted.{Acts, IsIn, IsSome, IsSomeMidway, IsWithin, Settles, Standing, no_lines, with_current}
use Rattle.network_acts.specs.control_plane.Plane.{HasNode, IsMidway, IsPlane, IsSteady, Moment}
use Rattle.network_acts.specs.control_plane.PlaneView.{PlaneView}
use Rattle.network_acts.proofs.control_plane.MidLemmas.{IsBase, turn_lacks, turn_made, worked}
use Rattle.network_acts.proofs.control_plane.OwnLemmas.{node_here, turn_acts, turn_some}
use Rattle.network_acts.proofs.control_plane.SteadyLemmas.{alone, call_streams, run_none, run_one, run_stays, steady_next, steady_stays}

-- a node is the same where another one takes over the present costs
known_at : (n m : NodeId) (network : OctetNetwork Nodes) (state : AnyNode) → IsNodeAt m network [] state → IsNodeAt m (with_known n network) [] state
known_at n m network (any.Edge state) at = record { node = at.node; unspent = at.unspent; waiting = at.waiting; streams = at.streams }
known_at n m network (any.CoreNode state) at =
    record { node = at.node; unspent = at.unspent; waiting = at.waiting; silent = at.silent; streams = at.streams }

module _ (scenario : Scenario) (cores : Cores) (moment : Moment) (n : NodeId) (network : OctetNetwork Nodes) (plane : PlaneView)
    (is : IsPlane scenario cores moment network plane)
    (within : n.0 < length scenario.nodes) where
  abbrev has : HasNode network plane.nodes n []
  has = is.nodes n within

  abbrev one : OctetAct NodeCall
  one = octets.Call (Follow n)

  abbrev next : Moment
  next = with_current n moment

  repriced : AreRepriced scenario.links network.state.links
  repriced = subst (λ (s : Scenario). AreRepriced s.links network.state.links) is.around.scenario_is is.around.steady.sound.links

  knows : cores network.state.links ≡ core_at (following network.state n) n
  knows = λ i. sym is.around.cores_are i (cond (sym (node_itself n n refl) i) network.state.links (network.state.known n))

  stands : Stands (following network.state n) n plane.core plane.clock has.node
  stands = record {
    placed = has.placed;
    known = subst (λ (t : Topology). IsCoreOf t.nodes t.links (core_at (following network.state n) n)) (sym is.around.core)
        (subst (λ (c : Core). IsCoreOf (length scenario.nodes) network.state.links c) knows
        (is.around.of_scenario.core network.state.links repriced));
    clock = is.around.clock;
  }

  base : IsBase scenario cores next n (with_known n network) network.transit plane plane.transit
  base = record {
    scenario_is = is.around.scenario_is;
    cores_are = is.around.cores_are;
    core = is.around.core;
    known = λ m below early. by m below (m.0 == n.0) early;
    clock = is.around.clock;
    joined = is.around.joined;
    octets = is.transit;
    others = λ m apart below. (let own = is.nodes m below in record {
      node = own.node;
      at = own.at;
      placed = own.placed;
      unspent = own.unspent;
      is = record {
        state = own.is.state;
        is = own.is.is;
        at = known_at n m network own.is.state own.is.at;
        toward = subst (λ (c : Core). IsWaitingTowardRoots c (labels_in own.node))
            (λ i. network.state.cores (cond (sym (node_apart m n apart) i) network.state.links (network.state.known m))) own.is.toward;
      };
    });
  }
    where
      by : (m : NodeId) → m.0 < length scenario.nodes → (b : Bool) → cond b false (moment.late m) ≡ false
          → cond b network.state.links (network.state.known m) ≡ network.state.links
      by m below true early = refl
      by m below false early = is.around.known m below early

  steady_after : (new : Behind (OctetNetwork Nodes)) → octet_act system network one ≡ Some new
      → IsElsewhere n (with_known n network) network.transit new → IsSteady next new.network
  steady_after new e elsewhere =
      let old : IsSteady moment network = is.around.steady in
      let ends = follows_ends network new n e in
      steady_next next network new.network
      (run_stays network.state.scenario network [] n (octet_run system network (one ∷ [])) (record { network = new.network; puts = new.puts ++ [] })
      (run_one network one new e)
      (act_stays network.state.scenario (acts.Reroute n) (subst (λ (s : Scenario). n.0 < length s.nodes) (sym is.around.scenario_is) within)
      (alone network) (steady_stays moment network old)))
      elsewhere.scenario
      (λ over j. old.whose over (sym (elsewhere.joined over) ∙ j))
      (λ over j quiet. ends over.kind over.to over.from ∙ old.up over (sym (elsewhere.joined over) ∙ j) quiet)
      (λ over down. call_streams network (Follow n) new e over ∙ old.fresh over (sym (ends over.kind over.to over.from) ∙ down))

  abbrev thereafter : AnyNode
  thereafter = node_after (following network.state n) n has.is.state Rerouted

  some : (new : Behind (OctetNetwork Nodes)) → octet_act system network one ≡ Some new
      → IsNodeAt n new.network new.puts thereafter × IsElsewhere n (with_known n network) network.transit new
  some new e = follow_made n network has.is.state has.is.at new e

  module _ (node : NetworkNode) (result : Result (Unit {0}) EdgeFault)
      (answers : Answers plane.core plane.clock (after Rerouted) has.node node result)
      (waits : OnOk result (WaitsTowardRootsOf plane.core (labels_in node))) where
    by_made : OnOk result ((network' : Nodes) (m : NodeId) → Stands network' m plane.core plane.clock has.node → (state : AnyNode)
        → IsNode state has.node → IsNode (node_after network' m state Rerouted) node)
        → OnOk result (spent_in node ≡ None) → result ≡ Ok tt → IsNode thereafter node × (spent_in node ≡ None)
    by_made made goes e = by result made goes e
      where
        by : (r : Result (Unit {0}) EdgeFault) → OnOk r
            ((network' : Nodes) (m : NodeId) → Stands network' m plane.core plane.clock has.node → (state : AnyNode) → IsNode state has.node
            → IsNode (node_after network' m state Rerouted) node)
            → OnOk r (spent_in node ≡ None) → r ≡ Ok tt → IsNode thereafter node × (spent_in node ≡ None)
        by (Ok done) m g f = (m (following network.state n) n stands has.is.state has.is.is, g)
        by (Err fault) m g f = absurd cc

    pub follow_made_at : result ≡ Ok tt → (new : Behind (OctetNetwork Nodes)) × (octet_act system network one ≡ Some new)
        × IsMidway scenario cores next n new.puts new.network (worked n plane node plane.transit)
    follow_made_at e =
        let own = by_made answers.made answers.goes_on e in
        turn_made scenario cores moment next n network (with_known n network) network.transit plane plane.transit (octet_act system network one)
        thereafter some node
        is.around within base (follow_lacks n network has.is.state has.is.at) steady_after own.0 own.1
        (subst (λ (s : Scenario). IsPlacedAt s n node) is.around.scenario_is (answers.placed network.state.scenario n has.placed))
        (subst (λ (r : Result (Unit {0}) EdgeFault). OnOk r (WaitsTowardRootsOf plane.core (labels_in node))) e waits
        (core_at (following network.state n) n) stands.known)

    pub follow_lacks_at : result ≡ Err faults.NoLabel → octet_act system network one ≡ None
    follow_lacks_at e =
        turn_lacks scenario cores moment next n network (with_known n network) network.transit plane plane.transit (octet_act system network one)
        thereafter some
        (answers.lacks e has.unspent (following network.state n) n stands has.is.state has.is.is)

-- ---- what the plane leaves and writes

module _ (plane : PlaneView) (n : NodeId) (old node : NetworkNode) (place : slice_get plane.nodes n.0 ≡ Some old)
    (answer : Result (Unit {0}) EdgeFault)
    (answers : Answers plane.core plane.clock (after Rerouted) old node answer) (waits : OnOk answer (WaitsTowardRootsOf plane.core (labels_in node)))
  where
    abbrev middle : PlaneView
    middle = worked n plane node plane.transit

    answers_in : (at : Standing) → (own : HasNode at.network plane.nodes n []) → Answers plane.core plane.clock (after Rerouted) own.node node answer
    answers_in at own =
        subst (λ (o : NetworkNode). Answers plane.core plane.clock (after Rerouted) o node answer) (same_Some old own.node (sym place ∙ own.at)) answers

    made_in : (at : Standing) → IsWithin n at → IsIn at plane → answer ≡ Ok tt → (new : Behind (OctetNetwork Nodes))
        × (octet_run system at.network (octets.Call (Follow n) ∷ []) ≡ Some (record { network = new.network; puts = new.puts ++ [] }))
        × IsMidway at.scenario at.cores (with_current n at.moment) n new.puts new.network middle
    made_in at fits is e =
        let made = follow_made_at at.scenario at.cores at.moment n at.network plane is fits node answer (answers_in at (is.nodes n fits)) waits e in
        (made.0, run_one at.network (octets.Call (Follow n)) made.0 made.1, made.2)

    pub follow_some : IsSome (IsWithin n) plane → OnOk answer (IsSomeMidway n middle)
    follow_some = turn_some (IsWithin n) (with_current n) (octets.Call (Follow n) ∷ []) no_lines n plane middle answer made_in

    pub follow_acts : (new : PlaneView) (lines new_lines : List ReportLine) (result : Result (Unit {0}) NodeFault)
        → Settles n answer middle new lines new_lines result
        → Acts (IsWithin n) (with_current n) (octets.Call (Follow n) ∷ []) no_lines plane new lines new_lines result
    follow_acts new lines new_lines result settles =
        turn_acts (IsWithin n) (with_current n) (octets.Call (Follow n) ∷ []) no_lines n plane middle answer made_in
        (λ at fits is e. run_none at.network (octets.Call (Follow n))
        (follow_lacks_at at.scenario at.cores at.moment n at.network plane is fits node answer (answers_in at (is.nodes n fits)) waits e))
        new lines new_lines result (λ at. refl) settles

-- the same of the node at a place of the plane, as the caller has it
module _ (plane seen : PlaneView) (view : plane ≡ seen) (n : NodeId) (some : IsSome (IsWithin n) seen) (place : ℕ) (own : place ≡ n.0)
    (old d node : NetworkNode) (is : old ≡ get_or plane.nodes place d) (answer : Result (Unit {0}) EdgeFault)
    (answers : Answers plane.core plane.clock (after Rerouted) old node answer) (waits : OnOk answer (WaitsTowardRootsOf plane.core (labels_in node)))
  where
    some_own : IsSome (IsWithin n) plane
    some_own = subst (IsSome (IsWithin n)) (sym view) some

    stands_there : slice_get plane.nodes n.0 ≡ Some old
    stands_there = node_here (IsWithin n) n (λ at fits. fits) plane some_own place own old d is

    abbrev turned : ℕ → PlaneView
    turned at = record plane { nodes = slice_set plane.nodes at node }

    pub follow_midway : OnOk answer (IsSomeMidway n (turned place))
    follow_midway =
        subst (λ (k : ℕ). OnOk answer (IsSomeMidway n (turned k))) (sym own) (follow_some plane n old node stands_there answer answers waits some_own)

    pub follow_done : (new : PlaneView) (lines new_lines : List ReportLine) (result : Result (Unit {0}) NodeFault)
        → Settles n answer (turned place) new lines new_lines result
        → Acts (IsWithin n) (with_current n) (octets.Call (Follow n) ∷ []) no_lines seen new lines new_lines result
    follow_done new lines new_lines result settles =
        subst (λ (p : PlaneView). Acts (IsWithin n) (with_current n) (octets.Call (Follow n) ∷ []) no_lines p new lines new_lines result) view
        (follow_acts plane n old node stands_there answer answers waits new lines new_lines result
        (subst (λ (k : ℕ). Settles n answer (turned k) new lines new_lines result) own settles))
