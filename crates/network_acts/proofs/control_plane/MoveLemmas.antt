-- A node that takes octets of a session, as an act of the control plane.
use Rattle.std.proofs.Common.{◌≡◌, ◌∙◌, refl, sym, ap, subst, ℕ, ◌<◌, inl, inr, Bool, true, false, cond, List, [], ◌∷◌, ◌++◌, length, take, drop, Option, Some, None, Result, Ok, Err, OnOk}
use Rattle.std.proofs.lemmas.Option.{none-some, same_Some}
use Rattle.mv_base.specs.Lists.{Among}
use Rattle.mv_base.specs.Number.{◌>>?◌}
use Rattle.mv_base.specs.declared.ids.NodeId.{NodeId}
use Rattle.mv_base.specs.framing.Feed.{fed, unfed}
use Rattle.scenario_defs.specs.declared.event.Kind.{Kind}
use Rattle.scenario_defs.specs.declared.report.ReportLine.TheVariants as lines
use Rattle.scenario_defs.specs.declared.scenario.Scenario.{Scenario}
use Rattle.network_defs.specs.session_defs.Message.{SessionMessage, front_of, same_direction}
use Rattle.network_defs.specs.session_defs.Octets as octets
use Rattle.network_defs.specs.session_defs.Octets.{OctetAct, OctetNetwork, Stream, all_taken, moved, octet_act, octet_run, with_step}
use Rattle.network_defs.specs.session_defs.Refined.{IsLine}
use Rattle.network_defs.specs.session_defs.System.{Behind, Stepped, with_earlier}
use Rattle.network_defs.specs.declared.session_defs.direction.Direction.{Direction}
use Rattle.network_defs.proofs.session_defs.Lines.{direction_is}
use Rattle.net_sessions.specs.session_transit.TransitData.{Takes, TransitData}
use Rattle.network_nodes.specs.edge_streams.Streams.{told_fault}
use Rattle.network_defs.specs.Acts as acts
use Rattle.network_defs.specs.Costs.{Cores}
use Rattle.network_defs.specs.Counts.{direction, is_end_up}
use Rattle.network_defs.specs.Nodes.{NodeState, Nodes, core_at}
use Rattle.network_defs.specs.System.{NodeCall, system}
use Rattle.network_laws.proofs.RunActs.{act_stays}
use Rattle.network_nodes.specs.wire_laws.AnyNodes as any
use Rattle.network_nodes.specs.wire_laws.AnyNodes.{AnyNode, HasSessions, IsElsewhere, IsNodeAt, node_fault, node_taking, rest_of, spent_of}
use Rattle.network_nodes.specs.wire_laws.Edges.{IsWay}
use Rattle.network_nodes.proofs.wire_laws.AnyNodeLemmas.{move_lacks, move_made}
use Rattle.network_nodes.proofs.wire_laws.EndLemmas.{moves_ends}
use Rattle.network_nodes.proofs.wire_laws.WayLemmas.{reversed}
use Rattle.network_nodes.specs.Answers.{AnswersOctets, IsSessionFault, Makes, Stands, taking}
use Rattle.network_nodes.specs.Edges.{spent_by}
use Rattle.network_nodes.specs.Faults as faults
use Rattle.network_nodes.specs.Faults.{EdgeFault}
use Rattle.network_nodes.specs.NodeView.{IsNode, IsPlacedAt, MayBePeer, data_in, spent_in, stream_fault}
use Rattle.network_nodes.specs.declared.node.NetworkNode.{NetworkNode}
use Rattle.network_acts.specs.control_plane.Plane.{HasNode, IsMidway, IsPlane, IsSteady, Moment}
use Rattle.network_acts.specs.control_plane.PlaneView.{PlaneView}
use Rattle.network_acts.proofs.control_plane.DataLemmas.{data_same, fault_in, fault_of_node, has_sessions}
use Rattle.network_acts.proofs.control_plane.MidLemmas.{IsBase, goes_spent, stands_in, turn_lacks, turn_made, worked}
use Rattle.network_acts.proofs.control_plane.OwnLemmas.{may_be}
use Rattle.network_acts.proofs.control_plane.SteadyLemmas.{alone, run_one, run_stays, steady_next, steady_stays}

-- ---- streams

-- messages that are taken move no stream
taken_streams : (over : Direction) (messages : List SessionMessage) (old : OctetNetwork Nodes) (new : Behind (OctetNetwork Nodes))
    → all_taken system old over messages ≡ Some new
    → (other : Direction) → new.network.stream other ≡ old.stream other
taken_streams over [] old new e other =
    ap (λ (b : Behind (OctetNetwork Nodes)). b.network.stream other) (sym (same_Some (record { network = old; puts = [] }) new e))
taken_streams over (message ∷ more) old new e other =
    by (system.taken over message old.state) (λ next rest h. taken_streams over more next rest h other) e
  where
    thereafter : (next : Behind (OctetNetwork Nodes))
        → ((middle : OctetNetwork Nodes) (rest : Behind (OctetNetwork Nodes)) → all_taken system middle over more ≡ Some rest
        → rest.network.stream other ≡ middle.stream other)
        → (o : Option (Behind (OctetNetwork Nodes))) → all_taken system next.network over more ≡ o → with_earlier next.puts o ≡ Some new
        → new.network.stream other ≡ next.network.stream other
    thereafter next later None f h = absurd (none-some new h)
    thereafter next later (Some rest) f h =
        ap (λ (b : Behind (OctetNetwork Nodes)). b.network.stream other)
        (sym (same_Some (record { network = rest.network; puts = next.puts ++ rest.puts }) new h)) ∙ later next.network rest f

    by : (o : Option (Stepped Nodes)) → ((middle : OctetNetwork Nodes) (rest : Behind (OctetNetwork Nodes))
        → all_taken system middle over more ≡ Some rest → rest.network.stream other ≡ middle.stream other)
        → (with_step old o >>? λ next. with_earlier next.puts (all_taken system next.network over more)) ≡ Some new
        → new.network.stream other ≡ old.stream other
    by None later h = absurd (none-some new h)
    by (Some stepped) later h =
        let next : Behind (OctetNetwork Nodes) = record { network = octets.with_octets old stepped; puts = stepped.puts } in
        thereafter next later (all_taken system next.network over more) refl h

-- octets that are moved go to one stream
move_streams : (over : Direction) (count : ℕ) (old : OctetNetwork Nodes) (new : Behind (OctetNetwork Nodes))
    → octet_act system old (octets.Move over count) ≡ Some new
    → (other : Direction) → same_direction other over ≡ false → new.network.stream other ≡ old.stream other
move_streams over count old new e other apart = by (old.joined over) e
  where
    left : OctetNetwork Nodes
    left = record old {
      transit = λ own. cond (same_direction own over) (drop count (old.transit over)) (old.transit own);
      stream = λ own. cond (same_direction own over)
          (record (fed (front_of over.kind) (old.stream over) (take count (old.transit over))) { waiting = [] }) (old.stream own);
    }

    by : (joined : Bool) → cond joined (moved system old over count) (Some (record { network = old; puts = [] })) ≡ Some new
        → new.network.stream other ≡ old.stream other
    by false h = ap (λ (b : Behind (OctetNetwork Nodes)). b.network.stream other) (sym (same_Some (record { network = old; puts = [] }) new h))
    by true h =
        taken_streams over (fed (front_of over.kind) (old.stream over) (take count (old.transit over))).waiting left new h other
        ∙ ap (λ (b : Bool). cond b (record (fed (front_of over.kind) (old.stream over) (take count (old.transit over))) { waiting = [] })
        (old.stream other)) apart

-- a node that takes octets has the sessions that it had
taking_has : (network : Nodes) (n : NodeId) (state : AnyNode) (kind : Kind) (from : NodeId) (octets : List ℕ) → HasSessions kind state
    → HasSessions kind (node_taking network n state kind from octets)
taking_has network n (any.Edge state) kind from octets has = has
taking_has network n (any.CoreNode state) kind from octets has = has

-- ---- the act

module _ (scenario : Scenario) (cores : Cores) (moment : Moment) (network : OctetNetwork Nodes) (plane : PlaneView)
    (is : IsPlane scenario cores moment network plane)
    (kind : Kind) (from n : NodeId) (count : ℕ) (within : n.0 < length scenario.nodes) (current : moment.late n ≡ false)
    (joined : network.joined (direction kind from n) ≡ true) (quiet : moment.rising (direction kind from n) ≡ false) where
  abbrev over : Direction
  over = direction kind from n

  abbrev has : HasNode network plane.nodes n []
  has = is.nodes n within

  abbrev one : OctetAct NodeCall
  one = octets.Move over count

  abbrev old : IsSteady moment network
  old = is.around.steady

  placed : IsPlacedAt scenario n has.node
  placed = subst (λ (s : Scenario). IsPlacedAt s n has.node) is.around.scenario_is has.placed

  pub peer_may : MayBePeer has.node kind from
  peer_may = may_be scenario n has.node placed kind from
      (reversed scenario kind from n (subst (λ (s : Scenario). IsWay s over) is.around.scenario_is (old.whose over joined)))

  pub end_up : is_end_up kind (data_in has.node) from ≡ true
  end_up = ap (λ (s : NodeState). is_end_up kind s from) (sym (data_same n network [] has.node has.is)) ∙ old.up over joined quiet

  sessions : HasSessions kind has.is.state
  sessions = has_sessions has.is.state has.node kind from has.is.is peer_may

  no_fault_over : (moment' : Moment) (there : OctetNetwork Nodes) → IsSteady moment' there → there.joined over ≡ true
      → (there.stream over).fault ≡ None
  no_fault_over moment' there steady j =
      (subst (λ (b : Bool). IsLine kind b (there.stream over) (there.transit over) (steady.pending over)) j (steady.lines over)).sound

  calm_stream : node_fault has.is.state kind from ≡ None
  calm_stream = fault_in network n [] has.is.state kind from sessions has.is.at ∙ no_fault_over moment network old joined

  stands : Stands network.state n plane.core plane.clock has.node
  stands = stands_in scenario cores moment n network plane has.node is.around (is.around.known n within current) has.placed

  abbrev octets_taken : List ℕ
  octets_taken = take count (network.transit over)

  abbrev thereafter : AnyNode
  thereafter = node_taking network.state n has.is.state kind from octets_taken

  some : (new : Behind (OctetNetwork Nodes)) → octet_act system network one ≡ Some new
      → IsNodeAt n new.network new.puts thereafter × IsElsewhere n network (rest_of network over count) new
  some new e = move_made n from kind count network joined has.is.state has.is.at sessions calm_stream new e

  steady_after : (new : Behind (OctetNetwork Nodes)) → octet_act system network one ≡ Some new
      → IsElsewhere n network (rest_of network over count) new → IsSteady moment new.network
  steady_after new e elsewhere =
      let ends = moves_ends network new over count e in
      steady_next moment network new.network
      (run_stays network.state.scenario network (lines.Take kind from n octets_taken ∷ []) n (octet_run system network (one ∷ []))
      (record { network = new.network; puts = new.puts ++ [] }) (run_one network one new e)
      (act_stays network.state.scenario (acts.Move kind from n count) tt (alone network) (steady_stays moment network old)))
      elsewhere.scenario
      (λ other j. old.whose other (sym (elsewhere.joined other) ∙ j))
      (λ other j still. ends other.kind other.to other.from ∙ old.up other (sym (elsewhere.joined other) ∙ j) still)
      (λ other down. by other (same_direction other over) refl (sym (ends other.kind other.to other.from) ∙ down))
    where
      by : (other : Direction) (b : Bool) → same_direction other over ≡ b → is_end_up other.kind (network.state.node other.to) other.from ≡ false
          → new.network.stream other ≡ unfed
      by other true same down =
          let up = old.up over joined quiet in
          let here = direction_is other over same in
          absurd (let t : true ≡ false = sym up ∙ (ap (λ (d : Direction). is_end_up d.kind (network.state.node d.to) d.from) (sym here) ∙ down) in cc)
      by other false apart down = move_streams over count network new e other apart ∙ old.fresh other down

  module _ (transit : TransitData) (takes : Takes over count plane.transit transit) where
    base : IsBase scenario cores moment n network (rest_of network over count) plane transit
    base = record {
      scenario_is = is.around.scenario_is;
      cores_are = is.around.cores_are;
      core = is.around.core;
      known = is.around.known;
      clock = is.around.clock;
      joined = λ other. is.around.joined other ∙ sym (takes.joined other);
      octets = λ other.
          (λ i. cond (same_direction other over) (drop count (is.transit over i)) (is.transit other i)) ∙ sym (takes.octets other);
      others = λ m apart below. is.nodes m below;
    }

    module _ (node : NetworkNode) (result : Result (Unit {0}) EdgeFault)
        (answers : AnswersOctets plane.core plane.clock kind from octets_taken has.node node result) where
      by_made : OnOk result (Makes plane.core plane.clock (taking kind from octets_taken) has.node node) → OnOk result (spent_in node ≡ None)
          → result ≡ Ok tt → IsNode thereafter node × (spent_in node ≡ None)
      by_made made goes e = by result made goes e
        where
          by : (r : Result (Unit {0}) EdgeFault) → OnOk r (Makes plane.core plane.clock (taking kind from octets_taken) has.node node)
              → OnOk r (spent_in node ≡ None) → r ≡ Ok tt → IsNode thereafter node × (spent_in node ≡ None)
          by (Ok done) m g f = (m network.state n stands has.is.state has.is.is, g)
          by (Err fault) m g f = absurd cc

      -- where the node answers Ok, the octets are moved
      pub move_made_at : result ≡ Ok tt → (new : Behind (OctetNetwork Nodes)) × (octet_act system network one ≡ Some new)
          × IsMidway scenario cores moment n new.puts new.network (worked n plane node transit)
      move_made_at e =
          let own = by_made answers.answers.made answers.answers.goes_on e in
          turn_made scenario cores moment moment n network network (rest_of network over count) plane transit (octet_act system network one) thereafter
          some node
          is.around within base (move_lacks n from kind count network joined has.is.state has.is.at sessions calm_stream) steady_after own.0 own.1
          (subst (λ (s : Scenario). IsPlacedAt s n node) is.around.scenario_is (answers.answers.placed network.state.scenario n has.placed))
          (answers.answers.toward own.1 (core_at network.state n) stands.known has.is.toward)

      pub move_lacks_at : result ≡ Err faults.NoLabel → octet_act system network one ≡ None
      move_lacks_at e =
          turn_lacks scenario cores moment moment n network network (rest_of network over count) plane transit (octet_act system network one) thereafter
          some
          (answers.answers.lacks e has.unspent network.state n stands has.is.state has.is.is)

      -- no fault of the stream can come
      pub none_faulty : (fault : EdgeFault) → result ≡ Err fault → Among fault (faults.NoLabel ∷ faults.NoMemory ∷ [])
      none_faulty fault e = elim (answers.only fault e) [
        | inl among ↦ among
        | inr faulty ↦ absurd (by faulty (octet_act system network one) refl)
      ]
        where
          goes : IsSessionFault kind from node fault → spent_in node ≡ None
          goes faulty = answers.answers.spends fault e has.unspent ∙ ap spent_by faulty.2

          own : IsSessionFault kind from node fault → IsNode thereafter node
          own faulty = answers.taken fault e has.unspent (goes faulty) network.state n stands has.is.state has.is.is

          by : IsSessionFault kind from node fault → (found : Option (Behind (OctetNetwork Nodes))) → octet_act system network one ≡ found → ⊥
          by faulty None f =
              goes_spent thereafter node (own faulty) (goes faulty)
              (move_lacks n from kind count network joined has.is.state has.is.at sessions calm_stream f)
          by faulty (Some new) f =
              let step = some new f in
              let there = taking_has network.state n has.is.state kind from octets_taken sessions in
              let none : stream_fault node kind from ≡ None =
              fault_of_node thereafter node kind from there (own faulty)
              ∙ (fault_in new.network n new.puts thereafter kind from there step.0
              ∙ no_fault_over moment new.network (steady_after new f step.1) (step.1.joined over ∙ joined)) in
              none-some _ (sym (ap told_fault none) ∙ faulty.3)
