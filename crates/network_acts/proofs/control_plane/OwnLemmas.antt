-- A call of a node by itself, as an act of the control plane.
use Rattle.std.proofs.Common.{◌≡◌, ◌∙◌, refl, sym, ap, subst, ℕ, ◌<◌, Bool, true, false, List, [], ◌∷◌, ◌++◌, length, slice_get, slice_set, get_or, Option, Some, None, Result, Ok, Err, OnOk}
use Rattle.std.proofs.lemmas.List.{append-nil, append_assoc}
use Rattle.std.proofs.lemmas.Option.{same_Some}
use Rattle.mv_base.specs.Lists.{Among}
use Rattle.mv_base.specs.declared.ids.NodeId.{NodeId}
use Rattle.mv_base.specs.core_walks.Topology.{Topology}
use Rattle.label_defs.proofs.KeyLemmas.{node_itself}
use Rattle.scenario_defs.specs.declared.event.Kind.{Kind}
use Rattle.scenario_defs.specs.declared.event.Kind.TheVariants as kinds
use Rattle.scenario_defs.specs.declared.report.ReportLine.{ReportLine}
use Rattle.scenario_defs.specs.declared.scenario.Node.{Node}
use Rattle.scenario_defs.specs.declared.scenario.Scenario.{Scenario}
use Rattle.network_defs.specs.session_defs.Octets as octets
use Rattle.network_defs.specs.session_defs.Octets.{OctetAct, OctetNetwork, octet_act, octet_run}
use Rattle.network_defs.specs.session_defs.System.{Behind, Put}
use Rattle.edge_defs.specs.Steps.{Call}
use Rattle.network_nodes.specs.wire_laws.edge_routes.edge_home.Home.{Home, peers_of}
use Rattle.mldp_node.specs.declared.fault.NodeFault.{NodeFault}
use Rattle.network_defs.specs.Acts.{put_lines}
use Rattle.network_defs.specs.Costs.{Cores}
use Rattle.network_defs.specs.Counts.{direction}
use Rattle.network_defs.specs.Nodes.{Nodes, core_at}
use Rattle.network_defs.specs.System.{NodeCall, Own, system}
use Rattle.network_laws.specs.Honest.{IsSoundCall}
use Rattle.network_nodes.specs.wire_laws.AnyNodes.{AnyNode, IsElsewhere, IsNodeAt, node_after}
use Rattle.network_nodes.specs.wire_laws.Edges.{IsWay, begins}
use Rattle.network_nodes.specs.wire_laws.Ends.{HasCall}
use Rattle.network_nodes.proofs.wire_laws.AnyNodeLemmas.{call_lacks, call_made}
use Rattle.network_nodes.proofs.wire_laws.SessionPairs.{is_peer}
use Rattle.network_nodes.proofs.wire_laws.WayLemmas.{way_has}
use Rattle.network_nodes.specs.Answers.{Answers, Stands, after}
use Rattle.network_nodes.specs.Faults as faults
use Rattle.network_nodes.specs.Faults.{EdgeFault}
use Rattle.network_nodes.specs.NodeView.{IsNode, IsPlacedAt, MayBePeer, count_around, spent_in}
use Rattle.network_nodes.specs.declared.node.NetworkNode.{NetworkNode}
use Rattle.network_nodes.specs.declared.node.NetworkNode.TheVariants as nodes
use Rattle.network_nodes.proofs.NodeLemmas.{as_many}
use Rattle.network_acts.specs.control_plane.Acted.{Acted, Acts, IsCurrent, IsIn, IsSome, IsSomeMidway, Settles, Standing, same_moment, no_lines}
use Rattle.network_acts.specs.control_plane.Plane.{HasNode, IsMidway, IsPlane, IsSteady, Moment}
use Rattle.network_acts.specs.control_plane.PlaneView.{PlaneView}
use Rattle.network_acts.proofs.control_plane.ListLemmas.{found}
use Rattle.network_acts.proofs.control_plane.MidLemmas.{before_calm, same_base, stands_in, turn_lacks, turn_made, worked}
use Rattle.network_acts.proofs.control_plane.SteadyLemmas.{call_streams, calm_ends, own_stays, run_none, run_one, steady_next}

-- ---- where a node stands

-- so many nodes are around each
pub counted : (scenario : Scenario) (n : NodeId) (node : NetworkNode) → IsPlacedAt scenario n node → length scenario.nodes ≡ count_around node
counted scenario n (nodes.Edge edge) placed = ap (λ (h : Home). length h.scenario.nodes) (sym placed.0)
counted scenario n (nodes.CoreNode core) placed = sym (as_many scenario.nodes) ∙ ap (λ p. length p.addrs) (sym placed.0)

abbrev edge_or : Option Node → Bool
edge_or None = false
edge_or (Some node) = node.edge

-- a session of the scenario is one that the node may have
pub may_be : (scenario : Scenario) (n : NodeId) (node : NetworkNode) → IsPlacedAt scenario n node → (kind : Kind) (peer : NodeId)
    → IsWay scenario (direction kind n peer) → MayBePeer node kind peer
may_be scenario n (nodes.Edge edge) placed kinds.Bgp peer way =
    subst (λ (h : Home). Among peer (peers_of h)) (sym placed.0)
    (let h = way_has scenario kinds.Bgp n peer way in is_peer scenario n peer h.1 (λ e. h.2 (ap (λ (x : NodeId). x.0) (sym e))))
may_be scenario n (nodes.Edge edge) placed kinds.Ldp peer way = tt
may_be scenario n (nodes.CoreNode core) placed kinds.Ldp peer way = refl
may_be scenario n (nodes.CoreNode core) placed kinds.Bgp peer way =
    let edge = (way_has scenario kinds.Bgp n peer way).0 in
    absurd (let t : true ≡ false = sym edge.edge ∙ (ap edge_or (sym edge.at) ∙ placed.1) in cc)

-- ---- a node after its call

-- a call that begins no stream is no raise over BGP
pub calm_call : (n : NodeId) (network : OctetNetwork Nodes) (call : Call) → ((kind : Kind) (peer : NodeId) → begins call kind peer ≡ false)
    → HasCall n network call
calm_call n network call calm peer e =
    absurd (let t : true ≡ false = sym (node_itself peer peer refl) ∙ (ap (λ (c : Call). begins c kinds.Bgp peer) (sym e) ∙ calm kinds.Bgp peer) in
    cc)

-- ---- the act

module _ (scenario : Scenario) (cores : Cores) (moment : Moment) (n : NodeId) (network : OctetNetwork Nodes) (plane : PlaneView)
    (is : IsPlane scenario cores moment network plane)
    (within : n.0 < length scenario.nodes) (current : moment.late n ≡ false) (call : Call)
    (calm : (kind : Kind) (peer : NodeId) → begins call kind peer ≡ false) (sound : IsSoundCall call) where
  abbrev has : HasNode network plane.nodes n []
  has = is.nodes n within

  abbrev own : OctetAct NodeCall
  own = octets.Call (Own n call)

  stands : Stands network.state n plane.core plane.clock has.node
  stands = stands_in scenario cores moment n network plane has.node is.around (is.around.known n within current) has.placed

  steady_after : (new : Behind (OctetNetwork Nodes)) → octet_act system network own ≡ Some new → new.network.state.scenario ≡ network.state.scenario
      → ((over : _) → new.network.joined over ≡ network.joined over) → IsSteady moment new.network
  steady_after new e same joined =
      let old : IsSteady moment network = is.around.steady in
      let ends = calm_ends network n call new e (calm_call n network call calm) calm in
      steady_next moment network new.network
      (own_stays moment network n call new old (subst (λ (s : Scenario). n.0 < length s.nodes) (sym is.around.scenario_is) within) sound e) same
      (λ over j. old.whose over (sym (joined over) ∙ j))
      (λ over j quiet. ends over.kind over.to over.from ∙ old.up over (sym (joined over) ∙ j) quiet)
      (λ over down. call_streams network (Own n call) new e over ∙ old.fresh over (sym (ends over.kind over.to over.from) ∙ down))

  module _ (node : NetworkNode) (result : Result (Unit {0}) EdgeFault) (answers : Answers plane.core plane.clock (after call) has.node node result)
    where
      by_made : OnOk result ((network' : Nodes) (m : NodeId) → Stands network' m plane.core plane.clock has.node → (state : AnyNode)
          → IsNode state has.node → IsNode (node_after network' m state call) node)
          → OnOk result (spent_in node ≡ None) → result ≡ Ok tt → IsNode (node_after network.state n has.is.state call) node × (spent_in node ≡ None)
      by_made made goes e = by result made goes e
        where
          by : (r : Result (Unit {0}) EdgeFault) → OnOk r
              ((network' : Nodes) (m : NodeId) → Stands network' m plane.core plane.clock has.node → (state : AnyNode) → IsNode state has.node
              → IsNode (node_after network' m state call) node)
              → OnOk r (spent_in node ≡ None) → r ≡ Ok tt → IsNode (node_after network.state n has.is.state call) node × (spent_in node ≡ None)
          by (Ok done) m g f = (m network.state n stands has.is.state has.is.is, g)
          by (Err fault) m g f = absurd cc

      some : (new : Behind (OctetNetwork Nodes)) → octet_act system network own ≡ Some new
          → IsNodeAt n new.network new.puts (node_after network.state n has.is.state call) × IsElsewhere n network network.transit new
      some new f = call_made n network has.is.state call (before_calm n network call has.is.state calm has.is.at) new f

      -- where the node answers Ok, the act is made
      pub own_made : result ≡ Ok tt → (new : Behind (OctetNetwork Nodes)) × (octet_act system network own ≡ Some new)
          × IsMidway scenario cores moment n new.puts new.network (worked n plane node plane.transit)
      own_made e =
          let thereafter = by_made answers.made answers.goes_on e in
          turn_made scenario cores moment moment n network network network.transit plane plane.transit (octet_act system network own)
          (node_after network.state n has.is.state call) some node
          is.around within (same_base scenario cores moment n network plane is)
          (call_lacks n network has.is.state call (before_calm n network call has.is.state calm has.is.at))
          (λ new f elsewhere. steady_after new f elsewhere.scenario elsewhere.joined) thereafter.0 thereafter.1
          (subst (λ (s : Scenario). IsPlacedAt s n node) is.around.scenario_is (answers.placed network.state.scenario n has.placed))
          (answers.toward thereafter.1 (core_at network.state n) stands.known has.is.toward)

      -- where it lacks a label, so does the network
      pub own_lacks : result ≡ Err faults.NoLabel → octet_act system network own ≡ None
      own_lacks e =
          turn_lacks scenario cores moment moment n network network network.transit plane plane.transit (octet_act system network own)
          (node_after network.state n has.is.state call) some
          (answers.lacks e has.unspent network.state n stands has.is.state has.is.is)

-- ---- what the plane leaves and writes

-- the lines of an act whose node handed out what it put
pub acted : (at : Standing) (moment : Moment) (acts : List (OctetAct NodeCall)) (first : List ReportLine) (before : Behind (OctetNetwork Nodes))
    (lines own new_lines : List ReportLine) (new : PlaneView)
    → octet_run system at.network acts ≡ Some (record { network = before.network; puts = before.puts ++ [] }) → own ≡ lines ++ first
    → IsPlane at.scenario at.cores moment before.network new × (new_lines ≡ own ++ put_lines at.scenario before.puts)
    → Acted at moment acts first lines new_lines new
acted at moment acts first before lines told new_lines new run told_is made = record {
  new = record { network = before.network; puts = before.puts ++ [] };
  run = run;
  is = made.0;
  told =
      made.1
      ∙ (ap (λ (l : List ReportLine). l ++ put_lines at.scenario before.puts) told_is
      ∙ (append_assoc lines first (put_lines at.scenario before.puts)
      ∙ ap (λ (p : List Put). lines ++ (first ++ put_lines at.scenario p)) (sym (append-nil before.puts))));
}

-- What a plane does whose node's step was midway where the node answered Ok, and which has settled.
module _ (Fits : Standing → Type 0) (change : Moment → Moment) (acts : List (OctetAct NodeCall)) (first : Standing → List ReportLine) (n : NodeId)
    (plane middle : PlaneView)
    (answer : Result (Unit {0}) EdgeFault)
    (made_in : (at : Standing) → Fits at → IsIn at plane → answer ≡ Ok tt → (new : Behind (OctetNetwork Nodes))
    × (octet_run system at.network acts ≡ Some (record { network = new.network; puts = new.puts ++ [] }))
    × IsMidway at.scenario at.cores (change at.moment) n new.puts new.network middle) where
  -- what the node's step leaves is midway
  pub turn_some : IsSome Fits plane → OnOk answer (IsSomeMidway n middle)
  turn_some (at, fits, is) = by answer refl
    where
      by : (r : Result (Unit {0}) EdgeFault) → answer ≡ r → OnOk r (IsSomeMidway n middle)
      by (Ok done) e = (let made = made_in at fits is e in (at.scenario, at.cores, change at.moment, made.0.puts, made.0.network, made.2))
      by (Err fault) e = tt

  pub turn_acts : ((at : Standing) → Fits at → IsIn at plane → answer ≡ Err faults.NoLabel → octet_run system at.network acts ≡ None)
      → (new : PlaneView) (lines new_lines : List ReportLine) (result : Result (Unit {0}) NodeFault) → ((at : Standing) → first at ≡ [])
      → Settles n answer middle new lines new_lines result
      → Acts Fits change acts first plane new lines new_lines result
  turn_acts lacks_in new lines new_lines result none settles = record {
    made = by result settles.answered settles.made;
    lacks = λ e at fits is. (lacks_in at fits is (settles.lacks e).0, (settles.lacks e).1);
  }
    where
      by : (r : Result (Unit {0}) NodeFault) → OnOk r (answer ≡ Ok tt)
          → OnOk r ((scenario : Scenario) (cores : Cores) (moment : Moment) (puts : List Put) (network : OctetNetwork Nodes)
          → IsMidway scenario cores moment n puts network middle
          → IsPlane scenario cores moment network new × (new_lines ≡ lines ++ put_lines scenario puts))
          → OnOk r ((at : Standing) → Fits at → IsIn at plane → Acted at (change at.moment) acts (first at) lines new_lines new)
      by (Ok done) answered made = λ at fits is.
          let x = made_in at fits is answered in
          acted at (change at.moment) acts (first at) x.0 lines lines new_lines new x.1
          (sym (append-nil lines) ∙ ap (λ (l : List ReportLine). lines ++ l) (sym (none at)))
          (made at.scenario at.cores (change at.moment) x.0.puts x.0.network x.2)
      by (Err halt) answered made = tt

module _ (plane : PlaneView) (n : NodeId) (call : Call) (calm : (kind : Kind) (peer : NodeId) → begins call kind peer ≡ false)
    (sound : IsSoundCall call) (old node : NetworkNode)
    (place : slice_get plane.nodes n.0 ≡ Some old) (answer : Result (Unit {0}) EdgeFault)
    (answers : Answers plane.core plane.clock (after call) old node answer) where
  answers_in : (at : Standing) → (has : HasNode at.network plane.nodes n []) → Answers plane.core plane.clock (after call) has.node node answer
  answers_in at has =
      subst (λ (o : NetworkNode). Answers plane.core plane.clock (after call) o node answer) (same_Some old has.node (sym place ∙ has.at)) answers

  own_made_in : (at : Standing) → IsCurrent n at → IsIn at plane → answer ≡ Ok tt → (new : Behind (OctetNetwork Nodes))
      × (octet_run system at.network (octets.Call (Own n call) ∷ []) ≡ Some (record { network = new.network; puts = new.puts ++ [] }))
      × IsMidway at.scenario at.cores at.moment n new.puts new.network (worked n plane node plane.transit)
  own_made_in at fits is e =
      let made =
      own_made at.scenario at.cores at.moment n at.network plane is fits.within fits.current call calm sound node answer
      (answers_in at (is.nodes n fits.within)) e in
      (made.0, run_one at.network (octets.Call (Own n call)) made.0 made.1, made.2)

  pub own_some : IsSome (IsCurrent n) plane → OnOk answer (IsSomeMidway n (worked n plane node plane.transit))
  own_some =
      turn_some (IsCurrent n) same_moment (octets.Call (Own n call) ∷ []) no_lines n plane (worked n plane node plane.transit) answer own_made_in

  pub own_acts : (new : PlaneView) (lines new_lines : List ReportLine) (result : Result (Unit {0}) NodeFault)
      → Settles n answer (worked n plane node plane.transit) new lines new_lines result
      → Acts (IsCurrent n) same_moment (octets.Call (Own n call) ∷ []) no_lines plane new lines new_lines result
  own_acts new lines new_lines result settles =
      turn_acts (IsCurrent n) same_moment (octets.Call (Own n call) ∷ []) no_lines n plane (worked n plane node plane.transit) answer own_made_in
      (λ at fits is e. run_none at.network (octets.Call (Own n call))
      (own_lacks at.scenario at.cores at.moment n at.network plane is fits.within fits.current call calm sound node answer
      (answers_in at (is.nodes n fits.within)) e))
      new lines new_lines result (λ at. refl) settles

-- ---- the node at a place

module _ (Fits : Standing → Type 0) (n : NodeId) (below : (at : Standing) → Fits at → n.0 < length at.scenario.nodes) (plane : PlaneView)
    (some : IsSome Fits plane) (place : ℕ)
    (own : place ≡ n.0) (node d : NetworkNode) (is : node ≡ get_or plane.nodes place d) where
  -- it is the node of that number
  pub node_there : (at : Standing) → Fits at → IsIn at plane → slice_get plane.nodes n.0 ≡ Some node
  node_there at fits in_plane =
      let has = in_plane.nodes n (below at fits) in
      has.at ∙ ap (λ (x : NetworkNode). Some x) (sym (is ∙ (ap (λ (k : ℕ). get_or plane.nodes k d) own ∙ found plane.nodes n.0 has.node d has.at)))

  pub node_here : slice_get plane.nodes n.0 ≡ Some node
  node_here = node_there some.0 some.1 some.2

  -- and knows a core of so many nodes
  pub count_here : plane.core.nodes ≡ count_around node
  count_here =
      let at = some.0 in
      let has = some.2.nodes n (below at some.1) in
      let same : has.node ≡ node = same_Some has.node node (sym has.at ∙ node_here) in
      ap (λ (t : Topology). t.nodes) some.2.around.core
      ∙ (counted at.scenario n has.node (subst (λ (s : Scenario). IsPlacedAt s n has.node) some.2.around.scenario_is has.placed)
      ∙ ap count_around same)

-- a call of the node at a place of the plane, as the caller has it
module _ (plane seen : PlaneView) (view : plane ≡ seen) (n : NodeId) (some : IsSome (IsCurrent n) seen) (call : Call)
    (calm : (kind : Kind) (peer : NodeId) → begins call kind peer ≡ false) (sound : IsSoundCall call) (place : ℕ) (own : place ≡ n.0)
    (old d node : NetworkNode)
    (is : old ≡ get_or plane.nodes place d) (answer : Result (Unit {0}) EdgeFault)
    (answers : Answers plane.core plane.clock (after call) old node answer) where
  some_own : IsSome (IsCurrent n) plane
  some_own = subst (IsSome (IsCurrent n)) (sym view) some

  stands_there : slice_get plane.nodes n.0 ≡ Some old
  stands_there = node_here (IsCurrent n) n (λ at fits. fits.within) plane some_own place own old d is

  abbrev turned : ℕ → PlaneView
  turned at = record plane { nodes = slice_set plane.nodes at node }

  pub own_midway : OnOk answer (IsSomeMidway n (turned place))
  own_midway =
      subst (λ (k : ℕ). OnOk answer (IsSomeMidway n (turned k))) (sym own)
      (own_some plane n call calm sound old node stands_there answer answers some_own)

  pub own_done : (new : PlaneView) (lines new_lines : List ReportLine) (result : Result (Unit {0}) NodeFault)
      → Settles n answer (turned place) new lines new_lines result
      → Acts (IsCurrent n) same_moment (octets.Call (Own n call) ∷ []) no_lines seen new lines new_lines result
  own_done new lines new_lines result settles =
      subst (λ (p : PlaneView). Acts (IsCurrent n) same_moment (octets.Call (Own n call) ∷ []) no_lines p new lines new_lines result) view
      (own_acts plane n call calm sound old node stands_there answer answers new lines new_lines result
      (subst (λ (k : ℕ). Settles n answer (turned k) new lines new_lines result) own settles))
