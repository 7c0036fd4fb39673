-- A call of a core node, and the act of the network that it is.
use Rattle.std.proofs.Common.{◌≡◌, ◌∙◌, refl, sym, ap, subst, ℕ, ◌==◌, ◌&&◌, Bool, true, false, cond, List, [], ◌∷◌, ◌++◌, map, take, drop, if◌then◌else◌, Option, None, Some}
use Rattle.std.specs.Ordering.{eq_by_cmp}
use Rattle.std.specs.FinMap as maps
use Rattle.std.specs.FinMap.{FinMap}
use Rattle.std.proofs.lemmas.Bool.{eq-eqb}
use Rattle.std.proofs.lemmas.List.{append-nil}
use Rattle.std.proofs.lemmas.Option.{none-some, same_Some}
use Rattle.mv_base.specs.Number.{◌>>?◌}
use Rattle.mv_base.specs.declared.addr.Addr.{Addr}
use Rattle.mv_base.specs.declared.ids.NodeId.{NodeId}
use Rattle.mv_base.specs.core_walks.Core.{Core}
use Rattle.mv_base.specs.framing.Feed.{fed, unfed}
use Rattle.scenario_defs.specs.declared.event.Kind.TheVariants as kinds
use Rattle.label_defs.specs.Keys.{node_cmp}
use Rattle.label_defs.specs.LabelData.{LabelData, Place}
use Rattle.label_defs.specs.Node.{LabelNode, LacksLabel, NodePlace, Spent, called_unless, prepared, waiting_for, with_pdus}
use Rattle.label_defs.specs.Node as nodes
use Rattle.label_defs.specs.Settling as settling
use Rattle.label_defs.specs.Steps.{Call, Numbered, Taken, Want, Unwant, Raised, Noticed, Timers, Rerouted, label_step, step_puts}
use Rattle.label_defs.proofs.KeyLemmas.{node_cmp_total, node_equal, node_itself}
use Rattle.label_defs.proofs.SettleLemmas.{bind_some}
use Rattle.network_defs.specs.session_defs.Message.{SessionMessage, Bgp, Label as LabelMessage, front_of, same_direction}
use Rattle.network_defs.specs.session_defs.Octets as octets
use Rattle.network_defs.specs.session_defs.Octets.{OctetNetwork, Stream, octet_act}
use Rattle.network_defs.specs.session_defs.PeerSession.{fault_at, peer_cmp, stream_at}
use Rattle.network_defs.specs.session_defs.System.{Behind, Put, Stepped, octets_over, with_earlier}
use Rattle.network_defs.specs.declared.session_defs.direction.Direction.{Direction}
use Rattle.edge_defs.specs.Place.{addr_of}
use Rattle.edge_defs.specs.Steps as steps
use Rattle.edge_defs.specs.Steps.{own_label_call}
use Rattle.network_defs.specs.node_defs.Puts.{label_put, label_puts}
use Rattle.node_laws.specs.Places.{node_place}
use Rattle.node_laws.proofs.OctetLemmas.{peer_total}
use Rattle.node_laws.proofs.PlaceLemmas.{one_addr, one_place}
use Rattle.network_defs.specs.Counts.{direction}
use Rattle.network_defs.specs.Nodes.{Nodes, CoreNode, core_at, label_place_of, with_node}
use Rattle.network_defs.specs.System as world_steps
use Rattle.network_defs.specs.System.{node_called, system, unchanged}
use Rattle.wire_laws.specs.CoreNodes.{CoreState, IsCoreAt, IsCoreBefore, core_all_taken, core_called, core_called_unless, core_took, core_took_unless, ldp_with, streams_after}
use Rattle.wire_laws.specs.Edges.{IsWay}
use Rattle.wire_laws.proofs.Calls.{earlier_none, earlier_some, one_way, over_both, some_either, stream_or, with_none, with_some}
use Rattle.wire_laws.proofs.Puts.{append_assoc, one_node, tie}

-- ---- what is put

abbrev octets_or : Option (List ℕ) → List ℕ
octets_or o = elim o [ None ↦ [] | Some octets ↦ octets ]

-- what is put over LDP waits for its neighbour
pdus_wait : (n : NodeId) (addr : Addr) (messages : List Numbered) (waiting : FinMap node_cmp (List ℕ)) (peer : NodeId)
    → waiting_for (with_pdus addr messages waiting) peer ≡ waiting_for waiting peer
    ++ octets_over (direction kinds.Ldp n peer) (map (label_put n addr) messages)
pdus_wait n addr [] waiting peer = sym (append-nil (waiting_for waiting peer))
pdus_wait n addr (message ∷ more) waiting peer =
    pdus_wait n addr more (maps.insert waiting message.put.to (waiting_for waiting message.put.to ++ own)) peer
    ∙ (ap (λ (l : List ℕ). l ++ rest) (ap octets_or
    (maps.get-insert node_cmp_total waiting message.put.to (waiting_for waiting message.put.to ++ own) peer)
    ∙ here (eq_by_cmp node_cmp peer message.put.to) refl)
    ∙ (step (eq_by_cmp node_cmp peer message.put.to)
    ∙ ap (λ (b : Bool). waiting_for waiting peer ++ (cond b own [] ++ rest)) (one_node peer message.put.to ∙ there)))
  where
    own : List ℕ
    own = (label_put n addr message).unit.octets

    rest : List ℕ
    rest = octets_over (direction kinds.Ldp n peer) (map (label_put n addr) more)

    here : (b : Bool) → eq_by_cmp node_cmp peer message.put.to ≡ b
        → octets_or (cond b (Some (waiting_for waiting message.put.to ++ own)) (maps.get waiting peer))
        ≡ cond b (waiting_for waiting peer ++ own) (waiting_for waiting peer)
    here true e = ap (λ (q : NodeId). waiting_for waiting q ++ own) (node_equal message.put.to peer (sym (one_node peer message.put.to) ∙ e))
    here false e = refl

    step : (b : Bool) → cond b (waiting_for waiting peer ++ own) (waiting_for waiting peer) ++ rest ≡ waiting_for waiting peer
        ++ (cond b own [] ++ rest)
    step true = append_assoc (waiting_for waiting peer) own rest
    step false = refl

    there : (message.put.to.0 == peer.0) ≡ same_direction (label_put n addr message).over (direction kinds.Ldp n peer)
    there = sym (ap (λ (b : Bool). b && (message.put.to.0 == peer.0)) (node_itself n n refl))

-- nothing is put over BGP
no_pdus : (n : NodeId) (addr : Addr) (messages : List Numbered) (peer : NodeId)
    → octets_over (direction kinds.Bgp n peer) (map (label_put n addr) messages) ≡ []
no_pdus n addr [] peer = refl
no_pdus n addr (message ∷ more) peer = no_pdus n addr more peer

-- ---- before the step

waits_prepared : (call : Call) (node : LabelNode) (peer : NodeId) → waiting_for node.waiting peer ≡ []
    → waiting_for (prepared call node).waiting peer ≡ []
waits_prepared (Noticed own) node peer none =
    ap octets_or (maps.get-remove node_cmp_total node.waiting own peer) ∙ by (eq_by_cmp node_cmp peer own)
  where
    by : (b : Bool) → octets_or (cond b None (maps.get node.waiting peer)) ≡ []
    by true = refl
    by false = none
waits_prepared (Taken from message) node peer none = none
waits_prepared (Want fec) node peer none = none
waits_prepared (Unwant fec) node peer none = none
waits_prepared (Raised own) node peer none = none
waits_prepared Timers node peer none = none
waits_prepared Rerouted node peer none = none

prepared_spent : (call : Call) (node : LabelNode) → (prepared call node).spent ≡ node.spent
prepared_spent (Taken from message) node = refl
prepared_spent (Want fec) node = refl
prepared_spent (Unwant fec) node = refl
prepared_spent (Raised peer) node = refl
prepared_spent (Noticed peer) node = refl
prepared_spent Timers node = refl
prepared_spent Rerouted node = refl

prepared_part : (call : Call) (node : LabelNode) → (prepared call node).part ≡ node.part
prepared_part (Taken from message) node = refl
prepared_part (Want fec) node = refl
prepared_part (Unwant fec) node = refl
prepared_part (Raised peer) node = refl
prepared_part (Noticed peer) node = refl
prepared_part Timers node = refl
prepared_part Rerouted node = refl

-- ---- one step

module _ (n : NodeId) (network : OctetNetwork Nodes) (puts : List Put) (own : Call) (core : CoreState)
    (node : network.state.node n ≡ CoreNode core.node.part) (unspent : core.node.spent ≡ None)
    (silent : (peer : NodeId) → octets_over (direction kinds.Bgp n peer) puts ≡ []) where
  abbrev place : NodePlace
  place = node_place network.state.scenario n

  abbrev known : Core
  known = core_at network.state n

  abbrev now : ℕ
  now = network.state.clock

  abbrev addr : Addr
  addr = addr_of network.state.scenario n

  abbrev own_place : Place
  own_place = label_place_of network.state n

  abbrev made_by : settling.Stepped → Stepped Nodes
  made_by new = record {
    state = with_node network.state n (CoreNode new.part);
    puts = label_puts n addr own_place now (record { old = core.node.part; call = own; new = new });
  }

  abbrev step : Option (Stepped Nodes)
  step = label_step own_place now core.node.part own >>? λ new. Some (made_by new)

  called_is : core_called place known now core own
      ≡ record {
        node = nodes.thereafter addr own_place now (prepared own core.node) own (label_step own_place now core.node.part own);
        streams =
            streams_after own core.streams;
      }
  called_is =
      (λ i. core_called_unless (unspent i) place known now core own)
      ∙ (λ i. record {
        node = called_unless (unspent i) (sym (one_addr network.state.scenario n) i) (sym (one_place network.state.scenario known n) i) now core.node
            own;
        streams = streams_after own core.streams;
      })

  pub record IsStepped (new : Stepped Nodes) : Type 0 where
    pub core_is : IsCoreAt n (octets.with_octets network new) (puts ++ new.puts) (core_called place known now core own)
    pub same_place : node_place new.state.scenario n ≡ place
    pub same_core : core_at new.state n ≡ known
    pub same_clock : new.state.clock ≡ now

  module _ (waits : (peer : NodeId) → IsWay network.state.scenario (direction kinds.Ldp n peer)
      → waiting_for (prepared own core.node).waiting peer ≡ octets_over (direction kinds.Ldp n peer) puts)
      (streams : (peer : NodeId) → stream_at (streams_after own core.streams) (ldp_with peer) ≡ network.stream (direction kinds.Ldp peer n)) where
    stepped_by : (new : settling.Stepped) → label_step own_place now core.node.part own ≡ Some new → IsStepped (made_by new)
    stepped_by new e = record {
      core_is = subst (λ (x : CoreState). IsCoreAt n (octets.with_octets network (made_by new)) (puts ++ (made_by new).puts) x)
          (sym (called_is ∙ (λ i. record {
            node = nodes.thereafter addr own_place now (prepared own core.node) own (e i);
            streams =
                streams_after own core.streams;
          }))) (record {
            node = λ i. cond (eq-eqb n.0 n.0 refl i) (CoreNode new.part) (network.state.node n);
            unspent = prepared_spent own core.node ∙ unspent;
            waiting = λ peer way.
                ap (λ (part : LabelData). waiting_for (with_pdus addr (step_puts own_place now part own new.puts) (prepared own core.node).waiting)
                peer) (prepared_part own core.node)
                ∙ (pdus_wait n addr (step_puts own_place now core.node.part own new.puts) (prepared own core.node).waiting peer
                ∙ (ap (λ (l : List ℕ). l ++ octets_over (direction kinds.Ldp n peer) (made_by new).puts) (waits peer way)
                ∙ sym (over_both (direction kinds.Ldp n peer) puts (made_by new).puts)));
            silent = λ peer. over_both (direction kinds.Bgp n peer) puts (made_by new).puts
                ∙ (λ i. silent peer i ++ no_pdus n addr (step_puts own_place now core.node.part own new.puts) peer i);
            streams = streams;
          });
      same_place = refl;
      same_core = refl;
      same_clock = refl;
    }

    pub step_made : (new : Stepped Nodes) → step ≡ Some new → IsStepped new
    step_made new e =
        let x = bind_some (label_step own_place now core.node.part own) (λ made. Some (made_by made)) new e in
        subst IsStepped (same_Some (made_by x.0) new x.2) (stepped_by x.0 x.1)

  pub step_lacks : step ≡ None → (core_called place known now core own).node.spent ≡ Some LacksLabel
  step_lacks e = by (label_step own_place now core.node.part own) refl
    where
      by : (o : Option settling.Stepped) → label_step own_place now core.node.part own ≡ o
          → (core_called place known now core own).node.spent ≡ Some LacksLabel
      by None h = ap (λ (x : CoreState). x.node.spent) called_is ∙ (λ i. (nodes.thereafter addr own_place now (prepared own core.node) own (h i)).spent)
      by (Some made) h = absurd (none-some (made_by made) (sym e ∙ ap (λ (o : Option settling.Stepped). o >>? λ made. Some (made_by made)) h))

-- ---- acts

core_step : (n : NodeId) (network : OctetNetwork Nodes) (puts : List Put) (core : CoreState) (node : network.state.node n ≡ CoreNode core.node.part)
    (unspent : core.node.spent ≡ None)
    (silent : (peer : NodeId) → octets_over (direction kinds.Bgp n peer) puts ≡ []) (call : steps.Call) (own : Call) → own_label_call call ≡ Some own
    → node_called network.state n (CoreNode core.node.part) call ≡ step n network puts own core node unspent silent
core_step n network puts core node unspent silent call own e = λ i. world_steps.core_called network.state n core.node.part (e i)

-- the streams once the call is prepared
module _ (n : NodeId) (network : OctetNetwork Nodes) (core : CoreState) where
  begun_or : (from peer : NodeId) → ((from.0 == peer.0) ≡ true → network.stream (direction kinds.Ldp peer n) ≡ unfed)
      → ((from.0 == peer.0) ≡ false → stream_at core.streams (ldp_with peer) ≡ network.stream (direction kinds.Ldp peer n)) → (o : Option Stream)
      → stream_or o ≡ unfed
      → stream_or (cond (eq_by_cmp peer_cmp (ldp_with peer) (ldp_with from)) o (maps.get core.streams (ldp_with peer)))
      ≡ network.stream (direction kinds.Ldp peer n)
  begun_or from peer begun same o none =
      ap (λ (b : Bool). stream_or (cond b o (maps.get core.streams (ldp_with peer)))) (tie kinds.Ldp kinds.Ldp peer from) ∙ by (from.0 == peer.0) refl
    where
      by : (b : Bool) → (from.0 == peer.0) ≡ b → stream_or (cond b o (maps.get core.streams (ldp_with peer)))
          ≡ network.stream (direction kinds.Ldp peer n)
      by true e = none ∙ sym (begun e)
      by false e = same e

  abbrev Prepared : Call → Type 0
  Prepared own = (peer : NodeId) → stream_at (streams_after own core.streams) (ldp_with peer) ≡ network.stream (direction kinds.Ldp peer n)

  streams_prepared : (call : steps.Call) (own : Call) → own_label_call call ≡ Some own → IsCoreBefore n network call core → Prepared own
  streams_prepared (steps.Label from message) own e is = subst Prepared (same_Some (Taken from message) own e) (λ peer. is.streams peer refl)
  streams_prepared (steps.Raised kinds.Ldp from) own e is =
      subst Prepared (same_Some (Raised from) own e)
      (λ peer. ap stream_or (maps.get-insert peer_total core.streams (ldp_with from) unfed (ldp_with peer))
      ∙ begun_or from peer (is.begun peer) (is.streams peer) (Some unfed) refl)
  streams_prepared (steps.Noticed kinds.Ldp from) own e is =
      subst Prepared (same_Some (Noticed from) own e)
      (λ peer. ap stream_or (maps.get-remove peer_total core.streams (ldp_with from) (ldp_with peer))
      ∙ begun_or from peer (is.begun peer) (is.streams peer) None refl)
  streams_prepared steps.Timers own e is = subst Prepared (same_Some Timers own e) (λ peer. is.streams peer refl)
  streams_prepared steps.Rerouted own e is = subst Prepared (same_Some Rerouted own e) (λ peer. is.streams peer refl)
  streams_prepared (steps.Raised kinds.Bgp from) own e is = absurd (none-some own e)
  streams_prepared (steps.Noticed kinds.Bgp from) own e is = absurd (none-some own e)
  streams_prepared (steps.Update from message) own e is = absurd (none-some own e)
  streams_prepared (steps.Customer call) own e is = absurd (none-some own e)

nothing_put : (n peer : NodeId) → octets_over (direction kinds.Bgp n peer) [] ≡ []
nothing_put n peer = refl

module _ (n : NodeId) (network : OctetNetwork Nodes) (core : CoreState) (call : steps.Call) (own : Call) (is : IsCoreBefore n network call core)
    (own_is : own_label_call call ≡ Some own) where
  pub core_made : (new : Behind (OctetNetwork Nodes))
      → octets.with_step network (node_called network.state n (CoreNode core.node.part) call) ≡ Some new
      → IsCoreAt n new.network new.puts (core_called (node_place network.state.scenario n) (core_at network.state n) network.state.clock core own)
  core_made new e =
      let x = with_some network (node_called network.state n (CoreNode core.node.part) call) new e in
      let st = step_made n network [] own core is.node is.unspent (nothing_put n)
      (λ peer way. waits_prepared own core.node peer (is.waiting peer way)) (streams_prepared n network core call own own_is is) x.0
      (sym (core_step n network [] core is.node is.unspent (nothing_put n) call own own_is) ∙ x.1) in
      subst (λ (b : Behind (OctetNetwork Nodes)). IsCoreAt n b.network b.puts
      (core_called (node_place network.state.scenario n) (core_at network.state n) network.state.clock core own)) x.2 st.core_is

  pub core_lacks : octets.with_step network (node_called network.state n (CoreNode core.node.part) call) ≡ None
      → (core_called (node_place network.state.scenario n) (core_at network.state n) network.state.clock core own).node.spent ≡ Some LacksLabel
  core_lacks e =
      step_lacks n network [] own core is.node is.unspent (nothing_put n)
      (sym (core_step n network [] core is.node is.unspent (nothing_put n) call own own_is)
      ∙ with_none network (node_called network.state n (CoreNode core.node.part) call) e)

-- ---- messages

-- a node that is spent takes nothing
pub spent_takes : (at : NodePlace) (core_known : Core) (clock : ℕ) (from : NodeId) (messages : List SessionMessage) (core : CoreState) (cause : Spent)
    → core.node.spent ≡ Some cause
    → core_all_taken at core_known clock from messages core ≡ core
spent_takes at core_known clock from [] core cause e = refl
spent_takes at core_known clock from (Bgp message ∷ more) core cause e = spent_takes at core_known clock from more core cause e
spent_takes at core_known clock from (LabelMessage message ∷ more) core cause e =
    ap (λ (x : CoreState). core_all_taken at core_known clock from more x)
    (λ i. core_called_unless (e i) at core_known clock core (Taken from message)) ∙ spent_takes at core_known clock from more core cause e

module _ (n from : NodeId) where
  abbrev over : Direction
  over = direction kinds.Ldp from n

  -- what is known after the first message
  record IsFirst (network : OctetNetwork Nodes) (puts : List Put) (core thereafter : CoreState) (new : Stepped Nodes) : Type 0 where
    core_is : IsCoreAt n (octets.with_octets network new) (puts ++ new.puts) thereafter
    same_place : node_place new.state.scenario n ≡ node_place network.state.scenario n
    same_core : core_at new.state n ≡ core_at network.state n
    same_clock : new.state.clock ≡ network.state.clock

  abbrev after_first : OctetNetwork Nodes → SessionMessage → CoreState → CoreState
  after_first network message core =
      core_all_taken (node_place network.state.scenario n) (core_at network.state n) network.state.clock from (message ∷ []) core

  message_made : (network : OctetNetwork Nodes) (puts : List Put) (message : SessionMessage) (core : CoreState) → IsCoreAt n network puts core
      → (new : Stepped Nodes)
      → system.taken over message network.state ≡ Some new → IsFirst network puts core (after_first network message core) new
  message_made network puts (LabelMessage message) core is new e =
      let st = step_made n network puts (Taken from message) core is.node is.unspent is.silent is.waiting is.streams new
      (sym (core_step n network puts core is.node is.unspent is.silent (steps.Label from message) (Taken from message) refl)
      ∙ ((λ i. node_called network.state n (sym is.node i) (steps.Label from message)) ∙ e)) in
      record { core_is = st.core_is; same_place = st.same_place; same_core = st.same_core; same_clock = st.same_clock }
  message_made network puts (Bgp message) core is new e =
      subst (IsFirst network puts core core) (same_Some (unchanged network.state) new
      ((λ i. node_called network.state n (sym is.node i) (steps.Update from message)) ∙ e)) (record {
        core_is = record {
          node = is.node;
          unspent = is.unspent;
          waiting = λ peer way. is.waiting peer way ∙ ap (octets_over (direction kinds.Ldp n peer)) (sym (append-nil puts));
          silent = λ peer. ap (octets_over (direction kinds.Bgp n peer)) (append-nil puts) ∙ is.silent peer;
          streams = is.streams;
        };
        same_place = refl;
        same_core = refl;
        same_clock = refl;
      })

  -- the first message, and then the others
  first_then : (at : NodePlace) (core_known : Core) (clock : ℕ) (message : SessionMessage) (more : List SessionMessage) (core : CoreState)
      → core_all_taken at core_known clock from more (core_all_taken at core_known clock from (message ∷ []) core)
      ≡ core_all_taken at core_known clock from (message ∷ more) core
  first_then at core_known clock (Bgp message) more core = refl
  first_then at core_known clock (LabelMessage message) more core = refl

  message_lacks : (network : OctetNetwork Nodes) (puts : List Put) (message : SessionMessage) (core : CoreState) → IsCoreAt n network puts core
      → system.taken over message network.state ≡ None
      → (after_first network message core).node.spent ≡ Some LacksLabel
  message_lacks network puts (LabelMessage message) core is e =
      step_lacks n network puts (Taken from message) core is.node is.unspent is.silent
      (sym (core_step n network puts core is.node is.unspent is.silent (steps.Label from message) (Taken from message) refl)
      ∙ ((λ i. node_called network.state n (sym is.node i) (steps.Label from message)) ∙ e))
  message_lacks network puts (Bgp message) core is e =
      absurd (none-some (unchanged network.state) (sym e ∙ (λ i. node_called network.state n (is.node i) (steps.Update from message))))

  abbrev taken_in : OctetNetwork Nodes → List SessionMessage → CoreState → CoreState
  taken_in network messages core =
      core_all_taken (node_place network.state.scenario n) (core_at network.state n) network.state.clock from messages core

  pub messages_made : (messages : List SessionMessage) (network : OctetNetwork Nodes) (puts : List Put) (core : CoreState)
      (new : Behind (OctetNetwork Nodes)) → IsCoreAt n network puts core
      → octets.all_taken system network over messages ≡ Some new → IsCoreAt n new.network (puts ++ new.puts) (taken_in network messages core)
  messages_made [] network puts core new is e =
      subst (λ (b : Behind (OctetNetwork Nodes)). IsCoreAt n b.network (puts ++ b.puts) core)
      (same_Some (record { network = network; puts = [] }) new e)
      (subst (λ (p : List Put). IsCoreAt n network p core) (sym (append-nil puts)) is)
  messages_made (message ∷ more) network puts core new is e =
      let next =
      bind_some (octets.with_step network (system.taken over message network.state))
      (λ x. with_earlier x.puts (octets.all_taken system x.network over more)) new e in
      let first = with_some network (system.taken over message network.state) next.0 next.1 in
      let st = message_made network puts message core is first.0 first.1 in
      let rest = earlier_some next.0.puts (octets.all_taken system next.0.network over more) new next.2 in
      let thereafter = after_first network message core in
      let again = messages_made more next.0.network (puts ++ next.0.puts) thereafter rest.0
      (subst (λ (b : Behind (OctetNetwork Nodes)). IsCoreAt n b.network (puts ++ b.puts) thereafter) first.2 st.core_is) rest.1 in
      subst (λ (b : Behind (OctetNetwork Nodes)). IsCoreAt n b.network (puts ++ b.puts) (taken_in network (message ∷ more) core)) rest.2
      (subst (λ (x : CoreState). IsCoreAt n rest.0.network (puts ++ (next.0.puts ++ rest.0.puts)) x)
      ((λ i. core_all_taken ((ap (λ (b : Behind (OctetNetwork Nodes)). node_place b.network.state.scenario n) (sym first.2) ∙ st.same_place) i)
      ((ap (λ (b : Behind (OctetNetwork Nodes)). core_at b.network.state n) (sym first.2) ∙ st.same_core) i)
      ((ap (λ (b : Behind (OctetNetwork Nodes)). b.network.state.clock) (sym first.2) ∙ st.same_clock) i) from more thereafter)
      ∙ first_then (node_place network.state.scenario n) (core_at network.state n) network.state.clock message more core)
      (subst (λ (p : List Put). IsCoreAt n rest.0.network p (taken_in next.0.network more thereafter)) (append_assoc puts next.0.puts rest.0.puts) again))

  pub messages_lack : (messages : List SessionMessage) (network : OctetNetwork Nodes) (puts : List Put) (core : CoreState)
      → IsCoreAt n network puts core
      → octets.all_taken system network over messages ≡ None → (taken_in network messages core).node.spent ≡ Some LacksLabel
  messages_lack [] network puts core is e = absurd (none-some (record { network = network; puts = [] }) (sym e))
  messages_lack (message ∷ more) network puts core is e = by (system.taken over message network.state) refl (messages_lack more)
    where
      thereafter : CoreState
      thereafter = after_first network message core

      so : (x : CoreState) → x.node.spent ≡ Some LacksLabel → (taken_in network more x).node.spent ≡ Some LacksLabel
      so x h = ap (λ (c : CoreState). c.node.spent)
          (spent_takes (node_place network.state.scenario n) (core_at network.state n) network.state.clock from more x LacksLabel h) ∙ h

      joined : (taken_in network (message ∷ more) core).node.spent ≡ (taken_in network more thereafter).node.spent
      joined = ap (λ (c : CoreState). c.node.spent)
          (sym (first_then (node_place network.state.scenario n) (core_at network.state n) network.state.clock message more core))

      by : (o : Option (Stepped Nodes)) → system.taken over message network.state ≡ o
          → ((later : OctetNetwork Nodes) (p : List Put) (x : CoreState) → IsCoreAt n later p x → octets.all_taken system later over more ≡ None
          → (taken_in later more x).node.spent ≡ Some LacksLabel)
          → (taken_in network (message ∷ more) core).node.spent ≡ Some LacksLabel
      by None h rest = joined ∙ so thereafter (message_lacks network puts message core is h)
      by (Some st) h rest =
          let made = message_made network puts message core is st h in
          let lacking : octets.all_taken system (octets.with_octets network st) over more ≡ None =
          earlier_none st.puts (octets.all_taken system (octets.with_octets network st) over more)
          (sym (ap (λ (o : Option (Stepped Nodes)). octets.with_step network o >>? λ x. with_earlier x.puts
          (octets.all_taken system x.network over more)) h) ∙ e) in
          joined
          ∙ ((λ i. (core_all_taken (sym made.same_place i) (sym made.same_core i) (sym made.same_clock i) from more thereafter).node.spent)
          ∙ rest (octets.with_octets network st) (puts ++ st.puts) thereafter made.core_is lacking)

-- ---- octets

module _ (n from : NodeId) (count : ℕ) (network : OctetNetwork Nodes) (core : CoreState) (is : IsCoreAt n network [] core) where
  abbrev way : Direction
  way = direction kinds.Ldp from n

  abbrev piece : List ℕ
  piece = take count (network.transit way)

  abbrev new_stream : Stream
  new_stream = fed (front_of kinds.Ldp) (network.stream way) piece

  abbrev left : OctetNetwork Nodes
  left = record network {
    transit = λ other. if same_direction other way then drop count (network.transit way) else network.transit other;
    stream = λ other. if same_direction other way then record new_stream { waiting = [] } else network.stream other;
  }

  abbrev fed_stream : Stream
  fed_stream = fed (front_of kinds.Ldp) (stream_at core.streams (ldp_with from)) piece

  abbrev fed_core : CoreState
  fed_core = record core { streams = maps.insert core.streams (ldp_with from) (record fed_stream { waiting = [] }) }

  one_stream : fed_stream ≡ new_stream
  one_stream = ap (λ (s : Stream). fed (front_of kinds.Ldp) s piece) (is.streams from)

  fed_is : IsCoreAt n left [] fed_core
  fed_is = record {
    node = is.node;
    unspent = is.unspent;
    waiting = is.waiting;
    silent = is.silent;
    streams = λ peer.
        ap stream_or (maps.get-insert peer_total core.streams (ldp_with from) (record fed_stream { waiting = [] }) (ldp_with peer))
        ∙ (some_either (eq_by_cmp peer_cmp (ldp_with peer) (ldp_with from)) (record fed_stream { waiting = [] })
        (maps.get core.streams (ldp_with peer))
        ∙ (λ i. cond (one_way kinds.Ldp kinds.Ldp n from peer i) (record (one_stream i) { waiting = [] }) (is.streams peer i)));
  }

  took_so : fault_at core.streams (ldp_with from) ≡ None
      → core_took (node_place network.state.scenario n) (core_at network.state n) network.state.clock from piece core
      ≡ taken_in n from network new_stream.waiting fed_core
  took_so sound =
      (λ i. core_took_unless (is.unspent i) (sound i) (node_place network.state.scenario n) (core_at network.state n) network.state.clock from piece
      core)
      ∙ ap (λ (ms : List SessionMessage). taken_in n from network ms fed_core) (ap (λ (s : Stream). s.waiting) one_stream)

  moved_is : network.joined way ≡ true → octet_act system network (octets.Move way count) ≡ octets.all_taken system left way new_stream.waiting
  moved_is e = λ i. cond (e i) (octets.moved system network way count) (Some (record { network = network; puts = [] }))

  pub octets_made : network.joined way ≡ true → fault_at core.streams (ldp_with from) ≡ None → (new : Behind (OctetNetwork Nodes))
      → octet_act system network (octets.Move way count) ≡ Some new
      → IsCoreAt n new.network new.puts (core_took (node_place network.state.scenario n) (core_at network.state n) network.state.clock from piece
      core)
  octets_made joined sound new e =
      subst (λ (x : CoreState). IsCoreAt n new.network new.puts x) (sym (took_so sound))
      (messages_made n from new_stream.waiting left [] fed_core new fed_is (sym (moved_is joined) ∙ e))

  pub octets_lack : network.joined way ≡ true → fault_at core.streams (ldp_with from) ≡ None → octet_act system network (octets.Move way count) ≡ None
      → (core_took (node_place network.state.scenario n) (core_at network.state n) network.state.clock from piece core).node.spent ≡ Some LacksLabel
  octets_lack joined sound e =
      ap (λ (x : CoreState). x.node.spent) (took_so sound)
      ∙ messages_lack n from new_stream.waiting left [] fed_core fed_is (sym (moved_is joined) ∙ e)
