-- A call of an edge, and the act of the network that it is.
use Rattle.std.proofs.Common.{◌≡◌, ◌∙◌, refl, sym, ap, subst, ℕ, ◌==◌, ◌&&◌, inl, inr, Bool, true, false, cond, List, [], ◌∷◌, ◌++◌, take, drop, if◌then◌else◌, Option, None, Some}
use Rattle.std.specs.Ordering.{eq_by_cmp}
use Rattle.std.specs.FinMap as maps
use Rattle.std.proofs.lemmas.Bool.{eq-eqb}
use Rattle.std.proofs.lemmas.List.{append-nil}
use Rattle.std.proofs.lemmas.Option.{none-some, same_Some}
use Rattle.mv_base.specs.Number.{◌>>?◌}
use Rattle.mv_base.specs.declared.ids.NodeId.{NodeId}
use Rattle.mv_base.specs.framing.Feed.{fed, unfed}
use Rattle.scenario_defs.specs.Kinds.{same_kind}
use Rattle.scenario_defs.specs.declared.event.Kind.{Kind}
use Rattle.scenario_defs.specs.declared.event.Kind.TheVariants as kinds
use Rattle.label_defs.specs.Node.{LacksLabel}
use Rattle.label_defs.proofs.KeyLemmas.{node_apart, node_cases, node_itself}
use Rattle.label_defs.proofs.SettleLemmas.{bind_some}
use Rattle.network_defs.specs.session_defs.Message.{SessionMessage, Bgp, Label as LabelMessage, front_of, same_direction}
use Rattle.network_defs.specs.session_defs.Octets as octets
use Rattle.network_defs.specs.session_defs.Octets.{OctetNetwork, Stream, octet_act}
use Rattle.network_defs.specs.session_defs.PeerSession.{PeerSession, fault_at, peer_cmp, stream_at}
use Rattle.network_defs.specs.session_defs.System.{Behind, Put, Stepped, octets_over, with_earlier}
use Rattle.network_defs.specs.declared.session_defs.direction.Direction.{Direction}
use Rattle.edge_defs.specs.Place.{EdgePlace}
use Rattle.edge_defs.specs.Steps.{Call, Customer, Update, Label, Raised, Noticed, Timers, Rerouted, EdgeStepped, edge_step}
use Rattle.network_defs.specs.node_defs.EdgeState.{EdgeState, all_taken, call_of, called, edge_puts, prepared, took, took_unless, waiting_at}
use Rattle.node_laws.proofs.EdgeLemmas.{edge_after, edge_called}
use Rattle.node_laws.proofs.OctetLemmas.{peer_total, waiting_less}
use Rattle.node_laws.proofs.TakenLemmas.{message_called, spent_takes}
use Rattle.network_defs.specs.Counts.{direction}
use Rattle.network_defs.specs.Nodes.{Nodes, NodeState, Edge, place_of, with_node}
use Rattle.network_defs.specs.System.{node_called, system}
use Rattle.wire_laws.specs.Edges.{IsEdgeAt, IsEdgeBefore, IsWay, session_with}
use Rattle.wire_laws.proofs.Puts.{append_assoc, edge_from, puts_wait, tie}

-- ---- what is put, in two

pub over_both : (over : Direction) (p q : List Put) → octets_over over (p ++ q) ≡ octets_over over p ++ octets_over over q
over_both over [] q = refl
over_both over (put ∷ p) q = ap (λ (l : List ℕ). own ++ l) (over_both over p q) ∙ sym (append_assoc own (octets_over over p) (octets_over over q))
  where
    own : List ℕ
    own = cond (same_direction put.over over) put.unit.octets []

-- ---- before the step

abbrev pub stream_or : Option Stream → Stream
stream_or o = elim o [ None ↦ unfed | Some stream ↦ stream ]

-- what waits once the call is prepared
waits_prepared : (call : Call) (edge : EdgeState) (own : PeerSession) → waiting_at edge.waiting own ≡ []
    → waiting_at (prepared call edge).waiting own ≡ []
waits_prepared (Noticed kind peer) edge own none =
    waiting_less edge.waiting (session_with kind peer) own ∙ by (eq_by_cmp peer_cmp own (session_with kind peer))
  where
    by : (b : Bool) → cond b [] (waiting_at edge.waiting own) ≡ []
    by true = refl
    by false = none
waits_prepared (Update peer message) edge own none = none
waits_prepared (Label peer message) edge own none = none
waits_prepared (Customer call) edge own none = none
waits_prepared (Raised kind peer) edge own none = none
waits_prepared Timers edge own none = none
waits_prepared Rerouted edge own none = none

prepared_spent : (call : Call) (edge : EdgeState) → (prepared call edge).spent ≡ edge.spent
prepared_spent (Update peer message) edge = refl
prepared_spent (Label peer message) edge = refl
prepared_spent (Customer call) edge = refl
prepared_spent (Raised kind peer) edge = refl
prepared_spent (Noticed kind peer) edge = refl
prepared_spent Timers edge = refl
prepared_spent Rerouted edge = refl

-- the streams once the call is prepared
module _ (n : NodeId) (network : OctetNetwork Nodes) (edge : EdgeState) where
  -- a stream that begins in the call, and any other
  begun_or : (own : Kind) (from : NodeId) (kind : Kind) (peer : NodeId)
      → ((same_kind own kind && (from.0 == peer.0)) ≡ true → network.stream (direction kind peer n) ≡ unfed)
      → ((same_kind own kind && (from.0 == peer.0)) ≡ false
      → stream_at edge.streams (session_with kind peer) ≡ network.stream (direction kind peer n)) → (o : Option Stream) → stream_or o ≡ unfed
      → stream_or (cond (eq_by_cmp peer_cmp (session_with kind peer) (session_with own from)) o (maps.get edge.streams (session_with kind peer)))
      ≡ network.stream (direction kind peer n)
  begun_or own from kind peer begun same o none =
      ap (λ (b : Bool). stream_or (cond b o (maps.get edge.streams (session_with kind peer)))) (tie kind own peer from)
      ∙ by (same_kind own kind && (from.0 == peer.0)) refl
    where
      by : (b : Bool) → (same_kind own kind && (from.0 == peer.0)) ≡ b
          → stream_or (cond b o (maps.get edge.streams (session_with kind peer))) ≡ network.stream (direction kind peer n)
      by true e = none ∙ sym (begun e)
      by false e = same e

  streams_prepared : (call : Call) → IsEdgeBefore n network call edge → (kind : Kind) (peer : NodeId)
      → stream_at (prepared call edge).streams (session_with kind peer) ≡ network.stream (direction kind peer n)
  streams_prepared (Raised own from) is kind peer =
      ap stream_or (maps.get-insert peer_total edge.streams (session_with own from) unfed (session_with kind peer))
      ∙ begun_or own from kind peer (is.begun kind peer) (is.streams kind peer) (Some unfed) refl
  streams_prepared (Noticed own from) is kind peer =
      ap stream_or (maps.get-remove peer_total edge.streams (session_with own from) (session_with kind peer))
      ∙ begun_or own from kind peer (is.begun kind peer) (is.streams kind peer) None refl
  streams_prepared (Update peer message) is kind q = is.streams kind q refl
  streams_prepared (Label peer message) is kind q = is.streams kind q refl
  streams_prepared (Customer call) is kind q = is.streams kind q refl
  streams_prepared Timers is kind q = is.streams kind q refl
  streams_prepared Rerouted is kind q = is.streams kind q refl

-- ---- one step

module _ (n : NodeId) (network : OctetNetwork Nodes) (puts : List Put) (call : Call) (edge : EdgeState) (node : network.state.node n ≡ Edge edge.edge)
    (unspent : edge.spent ≡ None) where
  abbrev place : EdgePlace
  place = place_of network.state n

  abbrev now : ℕ
  now = network.state.clock

  abbrev step : Option (Stepped Nodes)
  step = node_called network.state n (Edge edge.edge) call

  abbrev made_by : EdgeStepped → Stepped Nodes
  made_by new = record { state = with_node network.state n (Edge new.edge); puts = edge_puts place now edge.edge new }

  -- the edge after the step, and its place
  pub record IsStepped (new : Stepped Nodes) : Type 0 where
    pub edge_is : IsEdgeAt n (octets.with_octets network new) (puts ++ new.puts) (called place now edge call)
    pub same_place : place_of new.state n ≡ place
    pub same_clock : new.state.clock ≡ now

  module _ (waits : (kind : Kind) (peer : NodeId) → IsWay network.state.scenario (direction kind n peer)
      → waiting_at (prepared call edge).waiting (session_with kind peer) ≡ octets_over (direction kind n peer) puts)
      (streams : (kind : Kind) (peer : NodeId) → stream_at (prepared call edge).streams (session_with kind peer)
      ≡ network.stream (direction kind peer n)) where
    stepped_by : (new : EdgeStepped) → edge_step place now edge.edge call ≡ Some new → IsStepped (made_by new)
    stepped_by new e = record {
      edge_is =
          subst (λ (x : EdgeState). IsEdgeAt n (octets.with_octets network (made_by new)) (puts ++ (made_by new).puts) x)
          (sym (edge_after place now call edge new unspent e)) (record {
            node = λ i. cond (eq-eqb n.0 n.0 refl i) (Edge new.edge) (network.state.node n);
            unspent = prepared_spent call edge ∙ unspent;
            waiting = λ kind peer way.
                puts_wait n kind peer (made_by new).puts (prepared call edge).waiting (edge_from place now edge.edge new)
                ∙ (ap (λ (l : List ℕ). l ++ octets_over (direction kind n peer) (made_by new).puts) (waits kind peer way)
                ∙ sym (over_both (direction kind n peer) puts (made_by new).puts));
            streams = streams;
          });
      same_place = refl;
      same_clock = refl;
    }

    pub step_made : (new : Stepped Nodes) → step ≡ Some new → IsStepped new
    step_made new e =
        let x = bind_some (edge_step place now edge.edge call) (λ made. Some (made_by made)) new e in
        subst IsStepped (same_Some (made_by x.0) new x.2) (stepped_by x.0 x.1)

  pub step_lacks : step ≡ None → (called place now edge call).spent ≡ Some LacksLabel
  step_lacks e = by (edge_step place now edge.edge call) refl
    where
      by : (o : Option EdgeStepped) → edge_step place now edge.edge call ≡ o → (called place now edge call).spent ≡ Some LacksLabel
      by None h = ap (λ (x : EdgeState). x.spent) (edge_called place now call edge None unspent h)
      by (Some made) h = absurd (none-some (made_by made) (sym e ∙ ap (λ (o : Option EdgeStepped). o >>? λ made. Some (made_by made)) h))

-- ---- acts

pub with_some : (network : OctetNetwork Nodes) (o : Option (Stepped Nodes)) (new : Behind (OctetNetwork Nodes))
    → octets.with_step network o ≡ Some new
    → (st : Stepped Nodes) × (o ≡ Some st) × (◌≡◌ {A = Behind (OctetNetwork Nodes)}
    (record { network = octets.with_octets network st; puts = st.puts }) new)
with_some network None new e = absurd (none-some new e)
with_some network (Some st) new e = (st, refl, same_Some _ new e)

pub with_none : (network : OctetNetwork Nodes) (o : Option (Stepped Nodes)) → octets.with_step network o ≡ None → o ≡ None
with_none network None e = refl
with_none network (Some st) e = absurd (none-some _ (sym e))

pub call_made : (n : NodeId) (network : OctetNetwork Nodes) (edge : EdgeState) (call : Call) (new : Behind (OctetNetwork Nodes))
    → IsEdgeBefore n network call edge
    → octets.with_step network (node_called network.state n (Edge edge.edge) call) ≡ Some new
    → IsEdgeAt n new.network new.puts (called (place_of network.state n) network.state.clock edge call)
call_made n network edge call new is e =
    let x = with_some network (node_called network.state n (Edge edge.edge) call) new e in
    let st = step_made n network [] call edge is.node is.unspent
    (λ kind peer way. waits_prepared call edge (session_with kind peer) (is.waiting kind peer way)) (streams_prepared n network edge call is) x.0
    x.1 in
    subst (λ (b : Behind (OctetNetwork Nodes)). IsEdgeAt n b.network b.puts (called (place_of network.state n) network.state.clock edge call)) x.2
    st.edge_is

pub call_lacks : (n : NodeId) (network : OctetNetwork Nodes) (edge : EdgeState) (call : Call) → IsEdgeBefore n network call edge
    → octets.with_step network (node_called network.state n (Edge edge.edge) call) ≡ None
    → (called (place_of network.state n) network.state.clock edge call).spent ≡ Some LacksLabel
call_lacks n network edge call is e =
    step_lacks n network [] call edge is.node is.unspent (with_none network (node_called network.state n (Edge edge.edge) call) e)

-- ---- what was put before

pub earlier_some : (puts : List Put) (o : Option (Behind (OctetNetwork Nodes))) (new : Behind (OctetNetwork Nodes)) → with_earlier puts o ≡ Some new
    → (rest : Behind (OctetNetwork Nodes)) × (o ≡ Some rest)
    × (◌≡◌ {A = Behind (OctetNetwork Nodes)} (record { network = rest.network; puts = puts ++ rest.puts }) new)
earlier_some puts None new e = absurd (none-some new e)
earlier_some puts (Some rest) new e = (rest, refl, same_Some _ new e)

pub earlier_none : (puts : List Put) (o : Option (Behind (OctetNetwork Nodes))) → with_earlier puts o ≡ None → o ≡ None
earlier_none puts None e = refl
earlier_none puts (Some rest) e = absurd (none-some _ (sym e))

-- ---- messages

calm_waits : (from : NodeId) (message : SessionMessage) (edge : EdgeState) → (prepared (call_of from message) edge) ≡ edge
calm_waits from (Bgp message) edge = refl
calm_waits from (LabelMessage message) edge = refl

module _ (n from : NodeId) (kind : Kind) where
  abbrev over : Direction
  over = direction kind from n

  message_made : (network : OctetNetwork Nodes) (puts : List Put) (message : SessionMessage) (edge : EdgeState) (is : IsEdgeAt n network puts edge)
      (new : Stepped Nodes)
      → system.taken over message network.state ≡ Some new → IsStepped n network puts (call_of from message) edge is.node is.unspent new
  message_made network puts message edge is new e =
      step_made n network puts (call_of from message) edge is.node is.unspent
      (λ k peer way. ap (λ (x : EdgeState). waiting_at x.waiting (session_with k peer)) (calm_waits from message edge) ∙ is.waiting k peer way)
      (λ k peer. ap (λ (x : EdgeState). stream_at x.streams (session_with k peer)) (calm_waits from message edge) ∙ is.streams k peer)
      new (ap (λ (state : NodeState). node_called network.state n state (call_of from message)) (sym is.node) ∙ e)

  pub messages_made : (messages : List SessionMessage) (network : OctetNetwork Nodes) (puts : List Put) (edge : EdgeState)
      (new : Behind (OctetNetwork Nodes)) → IsEdgeAt n network puts edge
      → octets.all_taken system network over messages ≡ Some new
      → IsEdgeAt n new.network (puts ++ new.puts) (all_taken (place_of network.state n) network.state.clock from messages edge)
  messages_made [] network puts edge new is e =
      subst (λ (b : Behind (OctetNetwork Nodes)). IsEdgeAt n b.network (puts ++ b.puts) edge)
      (same_Some (record { network = network; puts = [] }) new e)
      (subst (λ (p : List Put). IsEdgeAt n network p edge) (sym (append-nil puts)) is)
  messages_made (message ∷ more) network puts edge new is e =
      let next =
      bind_some (octets.with_step network (system.taken over message network.state))
      (λ x. with_earlier x.puts (octets.all_taken system x.network over more)) new e in
      let first = with_some network (system.taken over message network.state) next.0 next.1 in
      let st = message_made network puts message edge is first.0 first.1 in
      let rest = earlier_some next.0.puts (octets.all_taken system next.0.network over more) new next.2 in
      let edge_thereafter = called (place_of network.state n) network.state.clock edge (call_of from message) in
      let again = messages_made more next.0.network (puts ++ next.0.puts) edge_thereafter rest.0
      (subst (λ (b : Behind (OctetNetwork Nodes)). IsEdgeAt n b.network (puts ++ b.puts) edge_thereafter) first.2 st.edge_is) rest.1 in
      subst (λ (b : Behind (OctetNetwork Nodes)). IsEdgeAt n b.network (puts ++ b.puts)
      (all_taken (place_of network.state n) network.state.clock from (message ∷ more) edge)) rest.2
      (subst (λ (x : EdgeState). IsEdgeAt n rest.0.network (puts ++ (next.0.puts ++ rest.0.puts)) x)
      ((λ i. all_taken ((ap (λ (b : Behind (OctetNetwork Nodes)). place_of b.network.state n) (sym first.2) ∙ st.same_place) i)
      ((ap (λ (b : Behind (OctetNetwork Nodes)). b.network.state.clock) (sym first.2) ∙ st.same_clock) i) from more edge_thereafter)
      ∙ ap (λ (x : EdgeState). all_taken (place_of network.state n) network.state.clock from more x)
      (sym (message_called (place_of network.state n) network.state.clock from message edge)))
      (subst (λ (p : List Put). IsEdgeAt n rest.0.network p
      (all_taken (place_of next.0.network.state n) next.0.network.state.clock from more edge_thereafter)) (append_assoc puts next.0.puts rest.0.puts)
      again))

  pub messages_lack : (messages : List SessionMessage) (network : OctetNetwork Nodes) (puts : List Put) (edge : EdgeState)
      → IsEdgeAt n network puts edge
      → octets.all_taken system network over messages ≡ None
      → (all_taken (place_of network.state n) network.state.clock from messages edge).spent ≡ Some LacksLabel
  messages_lack [] network puts edge is e = absurd (none-some (record { network = network; puts = [] }) (sym e))
  messages_lack (message ∷ more) network puts edge is e = by (system.taken over message network.state) refl (messages_lack more)
    where
      place : EdgePlace
      place = place_of network.state n

      now : ℕ
      now = network.state.clock

      edge_thereafter : EdgeState
      edge_thereafter = called place now edge (call_of from message)

      so : (x : EdgeState) → x.spent ≡ Some LacksLabel → (all_taken place now from more x).spent ≡ Some LacksLabel
      so x h = ap (λ (s : EdgeState). s.spent) (spent_takes place now from more x LacksLabel h) ∙ h

      by : (o : Option (Stepped Nodes)) → system.taken over message network.state ≡ o
          → ((later : OctetNetwork Nodes) (p : List Put) (x : EdgeState) → IsEdgeAt n later p x → octets.all_taken system later over more ≡ None
          → (all_taken (place_of later.state n) later.state.clock from more x).spent ≡ Some LacksLabel)
          → (all_taken place now from (message ∷ more) edge).spent ≡ Some LacksLabel
      by None h rest =
          ap (λ (x : EdgeState). (all_taken place now from more x).spent) (message_called place now from message edge)
          ∙ so edge_thereafter (step_lacks n network puts (call_of from message) edge is.node is.unspent
          (ap (λ (state : NodeState). node_called network.state n state (call_of from message)) (sym is.node) ∙ h))
      by (Some st) h rest =
          let made = message_made network puts message edge is st h in
          let lacking : octets.all_taken system (octets.with_octets network st) over more ≡ None =
          earlier_none st.puts (octets.all_taken system (octets.with_octets network st) over more)
          (sym (ap (λ (o : Option (Stepped Nodes)). octets.with_step network o >>? λ x. with_earlier x.puts
          (octets.all_taken system x.network over more)) h) ∙ e) in
          ap (λ (x : EdgeState). (all_taken place now from more x).spent) (message_called place now from message edge)
          ∙ ((λ i. (all_taken (sym made.same_place i) (sym made.same_clock i) from more edge_thereafter).spent)
          ∙ rest (octets.with_octets network st) (puts ++ st.puts) edge_thereafter made.edge_is lacking)

-- ---- octets

pub one_way : (k kind : Kind) (n from peer : NodeId)
    → eq_by_cmp peer_cmp (session_with k peer) (session_with kind from) ≡ same_direction (direction k peer n) (direction kind from n)
one_way k kind n from peer = tie k kind peer from ∙ by k kind
  where
    same : (from.0 == peer.0) ≡ (peer.0 == from.0)
    same = elim (node_cases peer from) [
      | inl e ↦ node_itself from peer (sym e) ∙ sym (node_itself peer from e)
      | inr ne ↦ node_apart from peer (λ e. ne (sym e)) ∙ sym (node_apart peer from ne)
    ]

    at_n : (b : Bool) → b ≡ (b && (n.0 == n.0))
    at_n b = sym (ap (λ (c : Bool). b && c) (eq-eqb n.0 n.0 refl) ∙ and_true b)
      where
        and_true : (b : Bool) → (b && true) ≡ b
        and_true true = refl
        and_true false = refl

    by : (k kind : Kind) → (same_kind kind k && (from.0 == peer.0)) ≡ (same_kind k kind && (peer.0 == from.0) && (n.0 == n.0))
    by kinds.Bgp kinds.Bgp = same ∙ at_n (peer.0 == from.0)
    by kinds.Ldp kinds.Ldp = same ∙ at_n (peer.0 == from.0)
    by kinds.Bgp kinds.Ldp = refl
    by kinds.Ldp kinds.Bgp = refl

pub some_either : (b : Bool) (x : Stream) (o : Option Stream) → stream_or (cond b (Some x) o) ≡ cond b x (stream_or o)
some_either true x o = refl
some_either false x o = refl

module _ (n from : NodeId) (kind : Kind) (count : ℕ) (network : OctetNetwork Nodes) (edge : EdgeState) (is : IsEdgeAt n network [] edge) where
  abbrev way : Direction
  way = direction kind from n

  abbrev piece : List ℕ
  piece = take count (network.transit way)

  abbrev new_stream : Stream
  new_stream = fed (front_of kind) (network.stream way) piece

  abbrev left : OctetNetwork Nodes
  left = record network {
    transit = λ other. if same_direction other way then drop count (network.transit way) else network.transit other;
    stream = λ other. if same_direction other way then record new_stream { waiting = [] } else network.stream other;
  }

  abbrev fed_stream : Stream
  fed_stream = fed (front_of kind) (stream_at edge.streams (session_with kind from)) piece

  abbrev fed_edge : EdgeState
  fed_edge = record edge { streams = maps.insert edge.streams (session_with kind from) (record fed_stream { waiting = [] }) }

  one_stream : fed_stream ≡ new_stream
  one_stream = ap (λ (s : Stream). fed (front_of kind) s piece) (is.streams kind from)

  fed_is : IsEdgeAt n left [] fed_edge
  fed_is = record {
    node = is.node;
    unspent = is.unspent;
    waiting = is.waiting;
    streams = λ k peer.
        ap stream_or (maps.get-insert peer_total edge.streams (session_with kind from) (record fed_stream { waiting = [] }) (session_with k peer))
        ∙ (some_either (eq_by_cmp peer_cmp (session_with k peer) (session_with kind from)) (record fed_stream { waiting = [] })
        (maps.get edge.streams (session_with k peer))
        ∙ (λ i. cond (one_way k kind n from peer i) (record (one_stream i) { waiting = [] }) (is.streams k peer i)));
  }

  took_so : fault_at edge.streams (session_with kind from) ≡ None
      → took (place_of network.state n) network.state.clock (session_with kind from) piece edge
      ≡ all_taken (place_of network.state n) network.state.clock from new_stream.waiting fed_edge
  took_so sound =
      (λ i. took_unless (is.unspent i) (sound i) (place_of network.state n) network.state.clock (session_with kind from) piece edge)
      ∙ ap (λ (ms : List SessionMessage). all_taken (place_of network.state n) network.state.clock from ms fed_edge)
      (ap (λ (s : Stream). s.waiting) one_stream)

  moved_is : network.joined way ≡ true → octet_act system network (octets.Move way count) ≡ octets.all_taken system left way new_stream.waiting
  moved_is e = λ i. cond (e i) (octets.moved system network way count) (Some (record { network = network; puts = [] }))

  pub octets_made : network.joined way ≡ true → fault_at edge.streams (session_with kind from) ≡ None → (new : Behind (OctetNetwork Nodes))
      → octet_act system network (octets.Move way count) ≡ Some new
      → IsEdgeAt n new.network new.puts (took (place_of network.state n) network.state.clock (session_with kind from) piece edge)
  octets_made joined sound new e =
      subst (λ (x : EdgeState). IsEdgeAt n new.network new.puts x) (sym (took_so sound))
      (messages_made n from kind new_stream.waiting left [] fed_edge new fed_is (sym (moved_is joined) ∙ e))

  pub octets_lack : network.joined way ≡ true → fault_at edge.streams (session_with kind from) ≡ None
      → octet_act system network (octets.Move way count) ≡ None
      → (took (place_of network.state n) network.state.clock (session_with kind from) piece edge).spent ≡ Some LacksLabel
  octets_lack joined sound e =
      ap (λ (x : EdgeState). x.spent) (took_so sound)
      ∙ messages_lack n from kind new_stream.waiting left [] fed_edge fed_is (sym (moved_is joined) ∙ e)
