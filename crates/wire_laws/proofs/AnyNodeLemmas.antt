-- Acts of any node of the network.
use Rattle.std.proofs.Common.{◌≡◌, ◌∙◌, refl, sym, subst, ℕ, ◌==◌, ◌&&◌, Bool, true, false, cond, List, [], take, Option, None, Some}
use Rattle.std.proofs.lemmas.Option.{none-some, same_Some}
use Rattle.mv_base.specs.declared.ids.NodeId.{NodeId}
use Rattle.scenario_defs.specs.declared.event.Kind.{Kind}
use Rattle.scenario_defs.specs.declared.event.Kind.TheVariants as kinds
use Rattle.scenario_defs.specs.Kinds.{same_kind}
use Rattle.label_defs.proofs.KeyLemmas.{node_apart}
use Rattle.label_defs.specs.Node.{LacksLabel}
use Rattle.label_defs.specs.Steps as labels
use Rattle.mv_base.specs.framing.Feed.{fed}
use Rattle.network_defs.specs.session_defs.Message.{front_of, same_direction}
use Rattle.network_defs.specs.session_defs.Octets as octets
use Rattle.network_defs.specs.session_defs.Octets.{OctetNetwork, octet_act}
use Rattle.network_defs.specs.session_defs.System.{Behind, Stepped}
use Rattle.network_defs.specs.declared.session_defs.direction.Direction.{Direction}
use Rattle.edge_defs.specs.Steps as steps
use Rattle.edge_defs.specs.Steps.{Call, Rerouted, own_label_call}
use Rattle.network_defs.specs.Counts.{direction}
use Rattle.network_defs.specs.Nodes as nodes
use Rattle.network_defs.specs.Nodes.{Nodes, NodeState, following}
use Rattle.network_defs.specs.System.{Own, Follow, core_called, node_called, system, unchanged}
use Rattle.wire_laws.specs.AnyNodes.{AnyNode, Edge, CoreNode, HasSessions, IsElsewhere, IsNodeAt, IsNodeBefore, core_after, node_after, node_fault, node_taking, rest_of, spent_of, with_known}
use Rattle.wire_laws.specs.CoreNodes.{CoreState, IsCoreAt, IsCoreBefore}
use Rattle.wire_laws.specs.Edges.{begins}
use Rattle.wire_laws.proofs.Calls as edge_acts
use Rattle.wire_laws.proofs.Calls.{with_some}
use Rattle.wire_laws.proofs.CoreCalls as core_acts
use Rattle.wire_laws.proofs.Others.{messages_elsewhere, stepped_elsewhere, steps_at}

-- ---- calls

-- the state that the network has of a node
abbrev state_of : AnyNode → NodeState
state_of (Edge edge) = nodes.Edge edge.edge
state_of (CoreNode core) = nodes.CoreNode core.node.part

node_before : (n : NodeId) (network : OctetNetwork Nodes) (call : Call) (node : AnyNode) → IsNodeBefore n network call node
    → network.state.node n ≡ state_of node
node_before n network call (Edge edge) is = is.node
node_before n network call (CoreNode core) is = is.node

-- a call that is none of the label part begins no stream over LDP
calm : (call : Call) → own_label_call call ≡ None → (peer : NodeId) → begins call kinds.Ldp peer ≡ false
calm (steps.Label from message) e peer = refl
calm (steps.Raised kinds.Ldp from) e peer = absurd (none-some (labels.Raised from) (sym e))
calm (steps.Noticed kinds.Ldp from) e peer = absurd (none-some (labels.Noticed from) (sym e))
calm steps.Timers e peer = refl
calm Rerouted e peer = refl
calm (steps.Raised kinds.Bgp from) e peer = refl
calm (steps.Noticed kinds.Bgp from) e peer = refl
calm (steps.Update from message) e peer = refl
calm (steps.Customer call) e peer = refl

core_made : (n : NodeId) (network : OctetNetwork Nodes) (core : CoreState) (call : Call) (own : Option labels.Call) → own_label_call call ≡ own
    → IsCoreBefore n network call core
    → (new : Behind (OctetNetwork Nodes)) → octets.with_step network (node_called network.state n (nodes.CoreNode core.node.part) call) ≡ Some new
    → IsCoreAt n new.network new.puts (core_after network.state n core own)
core_made n network core call (Some own) own_is is new e = core_acts.core_made n network core call own is own_is new e
core_made n network core call None own_is is new e =
    subst (λ (b : Behind (OctetNetwork Nodes)). IsCoreAt n b.network b.puts core)
    (same_Some (record { network = octets.with_octets network (unchanged network.state); puts = [] }) new
    ((λ i. octets.with_step network (core_called network.state n core.node.part (sym own_is i))) ∙ e))
    (record {
      node = is.node;
      unspent = is.unspent;
      waiting = is.waiting;
      silent = λ peer. refl;
      streams =
          λ peer. is.streams peer (calm call own_is peer);
    })

core_lacks : (n : NodeId) (network : OctetNetwork Nodes) (core : CoreState) (call : Call) (own : Option labels.Call) → own_label_call call ≡ own
    → IsCoreBefore n network call core
    → octets.with_step network (node_called network.state n (nodes.CoreNode core.node.part) call) ≡ None
    → (core_after network.state n core own).node.spent ≡ Some LacksLabel
core_lacks n network core call (Some own) own_is is e = core_acts.core_lacks n network core call own is own_is e
core_lacks n network core call None own_is is e =
    absurd (none-some (record { network = octets.with_octets network (unchanged network.state); puts = [] })
    (sym ((λ i. octets.with_step network (core_called network.state n core.node.part (sym own_is i))) ∙ e)))

-- ---- a call

module _ (n : NodeId) (network : OctetNetwork Nodes) (node : AnyNode) (call : Call) (is : IsNodeBefore n network call node) where
  abbrev stepping : Option (Stepped Nodes)
  stepping = node_called network.state n (state_of node) call

  pub state_made : (new : Behind (OctetNetwork Nodes)) → octets.with_step network stepping ≡ Some new
      → IsNodeAt n new.network new.puts (node_after network.state n node call)
  state_made new e = by node is e
    where
      by : (any : AnyNode) → IsNodeBefore n network call any → octets.with_step network (node_called network.state n (state_of any) call) ≡ Some new
          → IsNodeAt n new.network new.puts (node_after network.state n any call)
      by (Edge edge) here h = edge_acts.call_made n network edge call new here h
      by (CoreNode core) here h = core_made n network core call (own_label_call call) refl here new h

  pub state_lacks : octets.with_step network stepping ≡ None → spent_of (node_after network.state n node call) ≡ Some LacksLabel
  state_lacks e = by node is e
    where
      by : (any : AnyNode) → IsNodeBefore n network call any → octets.with_step network (node_called network.state n (state_of any) call) ≡ None
          → spent_of (node_after network.state n any call) ≡ Some LacksLabel
      by (Edge edge) here h = edge_acts.call_lacks n network edge call here h
      by (CoreNode core) here h = core_lacks n network core call (own_label_call call) refl here h

  pub state_elsewhere : (new : Behind (OctetNetwork Nodes)) → octets.with_step network stepping ≡ Some new → IsElsewhere n network network.transit new
  state_elsewhere new e =
      let x = with_some network stepping new e in
      subst (IsElsewhere n network network.transit) x.2 (stepped_elsewhere n network x.0 (steps_at n network.state (state_of node) call x.0 x.1))

  called_so : octet_act system network (octets.Call (Own n call)) ≡ octets.with_step network stepping
  called_so = λ i. octets.with_step network (node_called network.state n (node_before n network call node is i) call)

  pub call_made : (new : Behind (OctetNetwork Nodes)) → octet_act system network (octets.Call (Own n call)) ≡ Some new
      → IsNodeAt n new.network new.puts (node_after network.state n node call) × IsElsewhere n network network.transit new
  call_made new e = (state_made new (sym called_so ∙ e), state_elsewhere new (sym called_so ∙ e))

  pub call_lacks : octet_act system network (octets.Call (Own n call)) ≡ None → spent_of (node_after network.state n node call) ≡ Some LacksLabel
  call_lacks e = state_lacks (sym called_so ∙ e)

-- ---- costs

module _ (n : NodeId) (network : OctetNetwork Nodes) (node : AnyNode) (is : IsNodeAt n network [] node) where
  known_before : IsNodeBefore n (with_known n network) Rerouted node
  known_before = by node is
    where
      by : (any : AnyNode) → IsNodeAt n network [] any → IsNodeBefore n (with_known n network) Rerouted any
      by (Edge edge) at =
          record {
            node = at.node;
            unspent = at.unspent;
            waiting = at.waiting;
            streams = λ kind peer h. at.streams kind peer;
            begun =
                λ kind peer h. absurd cc;
          }
      by (CoreNode core) at =
          record { node = at.node; unspent = at.unspent; waiting = at.waiting; streams = λ peer h. at.streams peer; begun = λ peer h. absurd cc }

  follow_so : octet_act system network (octets.Call (Follow n))
      ≡ octets.with_step (with_known n network) (node_called (following network.state n) n (state_of node) Rerouted)
  follow_so =
      (λ i. octets.with_step network (node_called (following network.state n) n (node_before n (with_known n network) Rerouted node known_before i)
      Rerouted))
      ∙ by (node_called (following network.state n) n (state_of node) Rerouted)
    where
      by : (o : Option (Stepped Nodes)) → octets.with_step network o ≡ octets.with_step (with_known n network) o
      by None = refl
      by (Some st) = refl

  pub follow_made : (new : Behind (OctetNetwork Nodes)) → octet_act system network (octets.Call (Follow n)) ≡ Some new
      → IsNodeAt n new.network new.puts (node_after (following network.state n) n node Rerouted)
      × IsElsewhere n (with_known n network) network.transit new
  follow_made new e = (
    state_made n (with_known n network) node Rerouted known_before new (sym follow_so ∙ e),
    state_elsewhere n (with_known n network) node Rerouted known_before new (sym follow_so ∙ e),
  )

  pub follow_lacks : octet_act system network (octets.Call (Follow n)) ≡ None
      → spent_of (node_after (following network.state n) n node Rerouted) ≡ Some LacksLabel
  follow_lacks e = state_lacks n (with_known n network) node Rerouted known_before (sym follow_so ∙ e)

-- ---- octets

-- a move over a session that is joined
move_so : (network : OctetNetwork Nodes) (way : Direction) (count : ℕ) → network.joined way ≡ true
    → octet_act system network (octets.Move way count) ≡ octets.moved system network way count
move_so network way count joined = λ i. cond (joined i) (octets.moved system network way count) (Some (record { network = network; puts = [] }))

-- the stream of the receiver, and the octets that are left, when the messages are to be taken
move_elsewhere : (n from : NodeId) (kind : Kind) (count : ℕ) (network : OctetNetwork Nodes) (new : Behind (OctetNetwork Nodes))
    → network.joined (direction kind from n) ≡ true
    → octet_act system network (octets.Move (direction kind from n) count) ≡ Some new
    → IsElsewhere n network (rest_of network (direction kind from n) count) new
move_elsewhere n from kind count network new joined e =
    let way = direction kind from n in
    let taken = fed (front_of kind) (network.stream way) (take count (network.transit way)) in
    let made = messages_elsewhere n way refl _ _ new (sym (move_so network way count joined) ∙ e) in
    record {
      scenario = made.scenario;
      cores = made.cores;
      links = made.links;
      known = made.known;
      clock = made.clock;
      nodes = made.nodes;
      streams = λ over apart. made.streams over apart ∙ (λ i. cond (no_way over apart i) (record taken { waiting = [] }) (network.stream over));
      joined = made.joined;
      transit = made.transit;
      puts = made.puts;
    }
  where
    no_way : (over : Direction) → ¬ (over.to ≡ n) → same_direction over (direction kind from n) ≡ false
    no_way over apart =
        (λ i. same_kind over.kind kind && (over.from.0 == from.0) && node_apart over.to n apart i)
        ∙ none (same_kind over.kind kind) (over.from.0 == from.0)
      where
        none : (a b : Bool) → (a && b && false) ≡ false
        none true true = refl
        none true false = refl
        none false b = refl

module _ (n from : NodeId) (kind : Kind) (count : ℕ) (network : OctetNetwork Nodes) (joined : network.joined (direction kind from n) ≡ true) where
  abbrev piece : List ℕ
  piece = take count (network.transit (direction kind from n))

  abbrev moving : Option (Behind (OctetNetwork Nodes))
  moving = octet_act system network (octets.Move (direction kind from n) count)

  pub move_made : (node : AnyNode) → IsNodeAt n network [] node → HasSessions kind node → node_fault node kind from ≡ None
      → (new : Behind (OctetNetwork Nodes)) → moving ≡ Some new
      → IsNodeAt n new.network new.puts (node_taking network.state n node kind from piece)
      × IsElsewhere n network (rest_of network (direction kind from n) count) new
  move_made (Edge edge) is has sound new e =
      (edge_acts.octets_made n from kind count network edge is joined sound new e, move_elsewhere n from kind count network new joined e)
  move_made (CoreNode core) is has sound new e = (core_taken kind has joined sound e, move_elsewhere n from kind count network new joined e)
    where
      core_taken : (k : Kind) → k ≡ kinds.Ldp → network.joined (direction k from n) ≡ true → node_fault (CoreNode core) k from ≡ None
          → octet_act system network (octets.Move (direction k from n) count) ≡ Some new
          → IsNodeAt n new.network new.puts (node_taking network.state n (CoreNode core) k from (take count (network.transit (direction k from n))))
      core_taken kinds.Ldp h j s m = core_acts.octets_made n from count network core is j s new m
      core_taken kinds.Bgp h j s m = absurd cc

  pub move_lacks : (node : AnyNode) → IsNodeAt n network [] node → HasSessions kind node → node_fault node kind from ≡ None → moving ≡ None
      → spent_of (node_taking network.state n node kind from piece) ≡ Some LacksLabel
  move_lacks (Edge edge) is has sound e = edge_acts.octets_lack n from kind count network edge is joined sound e
  move_lacks (CoreNode core) is has sound e = core_lacking kind has joined sound e
    where
      core_lacking : (k : Kind) → k ≡ kinds.Ldp → network.joined (direction k from n) ≡ true → node_fault (CoreNode core) k from ≡ None
          → octet_act system network (octets.Move (direction k from n) count) ≡ None
          → spent_of (node_taking network.state n (CoreNode core) k from (take count (network.transit (direction k from n)))) ≡ Some LacksLabel
      core_lacking kinds.Ldp h j s m = core_acts.octets_lack n from count network core is j s m
      core_lacking kinds.Bgp h j s m = absurd cc
