-- A call of a node after an act on its sessions, as acts of the control plane.
use Rattle.std.proofs.Common.{◌≡◌, ◌∙◌, refl, sym, subst, ℕ, ◌<◌, Bool, true, false, List, [], ◌++◌, length, get_or, slice_get, slice_set, Option, Some, None, Result, Ok, Err, OnOk}
use Rattle.std.proofs.lemmas.Option.{same_Some}
use Rattle.mv_base.specs.declared.ids.NodeId.{NodeId}
use Rattle.mv_base.specs.framing.Feed.{unfed}
use Rattle.scenario_defs.specs.declared.event.Kind.{Kind}
use Rattle.scenario_defs.specs.declared.event.Kind.TheVariants as kinds
use Rattle.scenario_defs.specs.declared.report.ReportLine.{ReportLine}
use Rattle.scenario_defs.specs.declared.scenario.Scenario.{Scenario}
use Rattle.network_defs.specs.session_defs.Octets as octets
use Rattle.network_defs.specs.session_defs.Octets.{OctetAct, OctetNetwork, Stream, octet_act, octet_run}
use Rattle.network_defs.specs.session_defs.System.{Behind}
use Rattle.network_defs.specs.declared.session_defs.direction.Direction.{Direction}
use Rattle.net_sessions.specs.session_transit.TransitData.{TransitData, is_joined_at, octets_at}
use Rattle.edge_defs.specs.Steps.{Call}
use Rattle.mldp_node.specs.declared.fault.NodeFault.{NodeFault}
use Rattle.network_defs.specs.Counts.{direction}
use Rattle.network_defs.specs.Nodes.{Nodes, core_at}
use Rattle.network_defs.specs.System.{NodeCall, Own, system}
use Rattle.network_nodes.specs.wire_laws.AnyNodes as any
use Rattle.network_nodes.specs.wire_laws.AnyNodes.{AnyNode, IsElsewhere, IsNodeAt, IsNodeBefore}
use Rattle.network_nodes.specs.wire_laws.Edges.{begins}
use Rattle.network_nodes.proofs.wire_laws.AnyNodeLemmas.{call_lacks, call_made}
use Rattle.network_nodes.specs.Answers.{Answers, Makes, Stands, after}
use Rattle.network_nodes.specs.Faults as faults
use Rattle.network_nodes.specs.Faults.{EdgeFault}
use Rattle.network_nodes.specs.NodeView.{IsPlacedAt, spent_in}
use Rattle.network_nodes.specs.declared.node.NetworkNode.{NetworkNode}
use Rattle.network_acts.specs.control_plane.Acted.{Acts, IsIn, IsSome, IsSomeMidway, Settles, Standing, no_lines}
use Rattle.network_acts.specs.control_plane.Plane.{HasNode, IsMidway, IsSteady, Moment}
use Rattle.network_acts.specs.control_plane.PlaneView.{PlaneView}
use Rattle.network_acts.proofs.control_plane.MidLemmas.{IsBase, stands_in, turn_lacks, turn_made, worked}
use Rattle.network_acts.proofs.control_plane.NetworkLemmas.{has_kept}
use Rattle.network_acts.proofs.control_plane.OwnLemmas.{node_here, turn_acts, turn_some}

-- the network with its sessions otherwise
abbrev pub with_sessions : OctetNetwork Nodes → (Direction → Bool) → (Direction → List ℕ) → (Direction → Stream) → OctetNetwork Nodes
with_sessions network joined moving stream = record network { joined = joined; transit = moving; stream = stream }

-- ---- the node before the call

before_begun : (n : NodeId) (network : OctetNetwork Nodes) (joined : Direction → Bool) (moving : Direction → List ℕ) (stream : Direction → Stream)
    (call : Call) (state : AnyNode)
    → ((kind : Kind) (peer : NodeId) → begins call kind peer ≡ false → stream (direction kind peer n) ≡ network.stream (direction kind peer n))
    → ((kind : Kind) (peer : NodeId) → begins call kind peer ≡ true → stream (direction kind peer n) ≡ unfed)
    → IsNodeAt n network [] state → IsNodeBefore n (with_sessions network joined moving stream) call state
before_begun n network joined moving stream call (any.Edge state) same begun at = record {
  node = at.node;
  unspent = at.unspent;
  waiting = at.waiting;
  streams = λ kind peer none. at.streams kind peer ∙ sym (same kind peer none);
  begun = begun;
}
before_begun n network joined moving stream call (any.CoreNode state) same begun at = record {
  node = at.node;
  unspent = at.unspent;
  waiting = at.waiting;
  streams = λ peer none. at.streams peer ∙ sym (same kinds.Ldp peer none);
  begun = λ peer e. begun kinds.Ldp peer e;
}

-- ---- what an act begins with

-- Node n makes the call after an act on sessions, from the network of which the plane is: what is joined then, what is in transit and
-- which streams there are, so that the row of acts is that of the call from there, and the network is steady after it at the moment.
pub record Begins (at : Standing) (plane : PlaneView) (n : NodeId) (call : Call) (acts : List (OctetAct NodeCall)) (moment : Moment)
    (transit : TransitData) : Type 0 where
  pub within : n.0 < length at.scenario.nodes
  pub current : at.moment.late n ≡ false
  pub late : (m : NodeId) → moment.late m ≡ at.moment.late m
  pub joined : Direction → Bool
  pub moving : Direction → List ℕ
  pub stream : Direction → Stream
  pub joined_is : (over : Direction) → joined over ≡ is_joined_at transit over
  pub octets_are : (over : Direction) → moving over ≡ octets_at transit over
  pub others : (over : Direction) → (over.to ≡ n → ⊥) → stream over ≡ at.network.stream over
  pub streams : (kind : Kind) (peer : NodeId) → begins call kind peer ≡ false
      → stream (direction kind peer n) ≡ at.network.stream (direction kind peer n)
  pub begun : (kind : Kind) (peer : NodeId) → begins call kind peer ≡ true → stream (direction kind peer n) ≡ unfed
  pub runs : (new : Behind (OctetNetwork Nodes))
      → octet_act system (with_sessions at.network joined moving stream) (octets.Call (Own n call)) ≡ Some new
      → octet_run system at.network acts ≡ Some (record { network = new.network; puts = new.puts ++ [] })
  pub lacks : octet_act system (with_sessions at.network joined moving stream) (octets.Call (Own n call)) ≡ None
      → octet_run system at.network acts ≡ None
  pub steady : (new : Behind (OctetNetwork Nodes))
      → octet_act system (with_sessions at.network joined moving stream) (octets.Call (Own n call)) ≡ Some new
      → IsElsewhere n (with_sessions at.network joined moving stream) moving new → IsSteady moment new.network

module _ (at : Standing) (plane : PlaneView) (is : IsIn at plane) (n : NodeId) (call : Call) (acts : List (OctetAct NodeCall)) (moment : Moment)
    (transit : TransitData)
    (begin : Begins at plane n call acts moment transit) where
  abbrev network : OctetNetwork Nodes
  network = at.network

  abbrev has : HasNode network plane.nodes n []
  has = is.nodes n begin.within

  abbrev base : OctetNetwork Nodes
  base = with_sessions network begin.joined begin.moving begin.stream

  abbrev found : Option (Behind (OctetNetwork Nodes))
  found = octet_act system base (octets.Call (Own n call))

  before : IsNodeBefore n base call has.is.state
  before = before_begun n network begin.joined begin.moving begin.stream call has.is.state begin.streams begin.begun has.is.at

  stands : Stands network.state n plane.core plane.clock has.node
  stands = stands_in at.scenario at.cores at.moment n network plane has.node is.around (is.around.known n begin.within begin.current) has.placed

  is_base : IsBase at.scenario at.cores moment n base begin.moving plane transit
  is_base = record {
    scenario_is = is.around.scenario_is;
    cores_are = is.around.cores_are;
    core = is.around.core;
    known = λ m below early. is.around.known m below (sym (begin.late m) ∙ early);
    clock = is.around.clock;
    joined = begin.joined_is;
    octets = begin.octets_are;
    others = λ m apart below.
        has_kept m network base plane.nodes plane.nodes refl refl refl (λ over to. begin.others over (λ e. apart (sym to ∙ e))) refl
        (is.nodes m below);
  }

  module _ (node : NetworkNode) (answer : Result (Unit {0}) EdgeFault) (answers : Answers plane.core plane.clock (after call) has.node node answer)
    where
      -- where the node answers Ok, the acts are made
      begin_made : answer ≡ Ok tt → (new : Behind (OctetNetwork Nodes)) × (found ≡ Some new)
          × IsMidway at.scenario at.cores moment n new.puts new.network (worked n plane node transit)
      begin_made e =
          turn_made at.scenario at.cores at.moment moment n network base begin.moving plane transit found
          (any.node_after network.state n has.is.state call) (call_made n base has.is.state call before) node
          is.around begin.within is_base (call_lacks n base has.is.state call before) begin.steady
          (subst (λ (r : Result (Unit {0}) EdgeFault). OnOk r (Makes plane.core plane.clock (after call) has.node node)) e answers.made network.state n
          stands has.is.state has.is.is)
          (subst (λ (r : Result (Unit {0}) EdgeFault). OnOk r (spent_in node ≡ None)) e answers.goes_on)
          (subst (λ (s : Scenario). IsPlacedAt s n node) is.around.scenario_is (answers.placed network.state.scenario n has.placed))
          (answers.toward (subst (λ (r : Result (Unit {0}) EdgeFault). OnOk r (spent_in node ≡ None)) e answers.goes_on) (core_at network.state n)
          stands.known has.is.toward)

      -- where it lacks a label, so does the network
      begin_lacks : answer ≡ Err faults.NoLabel → octet_run system network acts ≡ None
      begin_lacks e =
          begin.lacks (turn_lacks at.scenario at.cores at.moment moment n network base begin.moving plane transit found
          (any.node_after network.state n has.is.state call) (call_made n base has.is.state call before)
          (answers.lacks e has.unspent network.state n stands has.is.state has.is.is))

-- ---- what the plane leaves and writes

module _ (Fits : Standing → Type 0) (change : Moment → Moment) (plane : PlaneView) (n : NodeId) (call : Call) (acts : List (OctetAct NodeCall))
    (transit : TransitData)
    (begin : (at : Standing) → Fits at → IsIn at plane → Begins at plane n call acts (change at.moment) transit) (old node : NetworkNode)
    (place : slice_get plane.nodes n.0 ≡ Some old)
    (answer : Result (Unit {0}) EdgeFault) (answers : Answers plane.core plane.clock (after call) old node answer) where
  abbrev middle : PlaneView
  middle = worked n plane node transit

  answers_in : (at : Standing) → (own : HasNode at.network plane.nodes n []) → Answers plane.core plane.clock (after call) own.node node answer
  answers_in at own =
      subst (λ (o : NetworkNode). Answers plane.core plane.clock (after call) o node answer) (same_Some old own.node (sym place ∙ own.at)) answers

  made_in : (at : Standing) → Fits at → IsIn at plane → answer ≡ Ok tt → (new : Behind (OctetNetwork Nodes))
      × (octet_run system at.network acts ≡ Some (record { network = new.network; puts = new.puts ++ [] }))
      × IsMidway at.scenario at.cores (change at.moment) n new.puts new.network middle
  made_in at fits is e =
      let start = begin at fits is in
      let made = begin_made at plane is n call acts (change at.moment) transit start node answer (answers_in at (is.nodes n start.within)) e in
      (made.0, start.runs made.0 made.1, made.2)

  begin_some : IsSome Fits plane → OnOk answer (IsSomeMidway n middle)
  begin_some = turn_some Fits change acts no_lines n plane middle answer made_in

  begin_acts : (new : PlaneView) (lines new_lines : List ReportLine) (result : Result (Unit {0}) NodeFault)
      → Settles n answer middle new lines new_lines result
      → Acts Fits change acts no_lines plane new lines new_lines result
  begin_acts new lines new_lines result settles =
      turn_acts Fits change acts no_lines n plane middle answer made_in
      (λ at fits is e. (let start = begin at fits is in
      begin_lacks at plane is n call acts (change at.moment) transit start node answer (answers_in at (is.nodes n start.within)) e))
      new lines new_lines result (λ at. refl) settles

-- the same of the node at a place of the plane, as the call has it
module _ (Fits : Standing → Type 0) (change : Moment → Moment) (plane seen : PlaneView) (view : plane ≡ seen) (some : IsSome Fits seen) (n : NodeId)
    (call : Call) (acts : List (OctetAct NodeCall))
    (transit : TransitData) (begin : (at : Standing) → Fits at → IsIn at plane → Begins at plane n call acts (change at.moment) transit)
    (below : (at : Standing) → Fits at → n.0 < length at.scenario.nodes) (place : ℕ) (own : place ≡ n.0) (old d node : NetworkNode)
    (is : old ≡ get_or plane.nodes place d)
    (answer : Result (Unit {0}) EdgeFault) (answers : Answers plane.core plane.clock (after call) old node answer) where
  here : IsSome Fits plane
  here = subst (IsSome Fits) (sym view) some

  stands_there : slice_get plane.nodes n.0 ≡ Some old
  stands_there = node_here Fits n below plane here place own old d is

  abbrev turned : ℕ → PlaneView
  turned at = record plane { nodes = slice_set plane.nodes at node; transit = transit }

  pub turn_midway : OnOk answer (IsSomeMidway n (turned place))
  turn_midway =
      subst (λ (k : ℕ). OnOk answer (IsSomeMidway n (turned k))) (sym own)
      (begin_some Fits change plane n call acts transit begin old node stands_there answer answers here)

  pub turn_done : (new : PlaneView) (lines new_lines : List ReportLine) (result : Result (Unit {0}) NodeFault)
      → Settles n answer (turned place) new lines new_lines result
      → Acts Fits change acts no_lines seen new lines new_lines result
  turn_done new lines new_lines result settles =
      subst (λ (p : PlaneView). Acts Fits change acts no_lines p new lines new_lines result) view
      (begin_acts Fits change plane n call acts transit begin old node stands_there answer answers new lines new_lines result
      (subst (λ (k : ℕ). Settles n answer (turned k) new lines new_lines result) own settles))
