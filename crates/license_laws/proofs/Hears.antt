-- What a node keeps of a neighbour is what the messages say that it took from that neighbour: over any acts on octets.
use Rattle.std.specs.Prelude.{⊤, take, drop}
use Rattle.std.proofs.Common.{◌≡◌, ◌≢◌, ◌⊎◌, inl, inr, ◌&&◌, not, ℕ, Bool, true, false, cond, map, flat_map, length, List, [], ◌∷◌, ◌++◌, Option, Some, None, refl, sym, ap, subst, ◌∙◌}
use Rattle.std.specs.List.{AllByRecursion}
use Rattle.std.proofs.lemmas.List.{append-nil, append_assoc}
use Rattle.mv_base.specs.Number.{◌>>?◌}
use Rattle.mv_base.specs.declared.ids.NodeId.{NodeId}
use Rattle.mv_base.specs.framing.Cut.{Cut}
use Rattle.mv_base.specs.framing.Feed.{fed, fed_by, fed_unless, unfed}
use Rattle.mv_base.specs.framing.Units.{Spelled, messages_of, AreUnits}
use Rattle.scenario_defs.specs.declared.event.Kind.{Kind}
use Rattle.scenario_defs.specs.declared.event.Kind.TheVariants as kinds
use Rattle.scenario_defs.specs.declared.scenario.Scenario.{Scenario}
use Rattle.label_defs.proofs.KeyLemmas.{node_itself, node_apart, node_cases}
use Rattle.label_defs.specs.Settling as settling
use Rattle.label_defs.specs.Steps as labels
use Rattle.label_defs.specs.Steps.{label_step}
use Rattle.network_defs.specs.session_defs.Message.{SessionMessage, Bgp, Label, SessionFault, same_direction, front_of, Spells}
use Rattle.network_defs.specs.session_defs.Octets.{Stream, OctetNetwork, OctetAct, Move, Call, Lose, Forget, Join, with_step, all_taken, octet_act, octet_run}
use Rattle.network_defs.specs.session_defs.Refined.{Carried}
use Rattle.network_defs.specs.session_defs.System.{Stepped, Behind, with_earlier}
use Rattle.network_defs.specs.declared.session_defs.direction.Direction.{Direction}
use Rattle.network_defs.proofs.session_defs.Came.{Came, came_cut}
use Rattle.network_defs.proofs.session_defs.Fronts.{stream_of}
use Rattle.network_defs.proofs.session_defs.Lines.{own_direction}
use Rattle.edge_defs.specs.Place.{addr_of}
use Rattle.edge_defs.specs.Steps as steps
use Rattle.edge_defs.specs.Steps.{EdgeStepped, edge_step, own_label_call}
use Rattle.network_defs.specs.Counts.{direction}
use Rattle.network_laws.proofs.Lists.{each_append}
use Rattle.network_defs.specs.Nodes.{NodeState, Edge, CoreNode, Nodes, with_node, fresh_node, following, place_of, label_place_of}
use Rattle.network_defs.specs.node_defs.Puts.{bgp_puts, label_puts}
use Rattle.network_defs.specs.System.{NodeCall, Own, Elapse, Reset, Price, Follow, node_called, core_called, call_of, system}

-- ---- calls

-- the call takes no message
abbrev pub IsOwnCall : steps.Call → Type 0
IsOwnCall (steps.Update peer message) = ⊥
IsOwnCall (steps.Label neighbour message) = ⊥
IsOwnCall other = Unit {0}

abbrev pub IsOwn : NodeCall → Type 0
IsOwn (Own n call) = IsOwnCall call
IsOwn other = Unit {0}

-- the call takes no message of that kind from that neighbour
abbrev pub IsOther : Kind → NodeId → steps.Call → Type 0
IsOther kinds.Bgp from (steps.Update peer message) = peer ≢ from
IsOther kinds.Ldp from (steps.Label neighbour message) = neighbour ≢ from
IsOther kind from other = Unit {0}

own_other : (kind : Kind) (from : NodeId) (call : steps.Call) → IsOwnCall call → IsOther kind from call
own_other kind from (steps.Update peer message) own = absurd own
own_other kind from (steps.Label neighbour message) own = absurd own
own_other kinds.Bgp from (steps.Customer call) own = tt
own_other kinds.Ldp from (steps.Customer call) own = tt
own_other kinds.Bgp from (steps.Raised k peer) own = tt
own_other kinds.Ldp from (steps.Raised k peer) own = tt
own_other kinds.Bgp from (steps.Noticed k peer) own = tt
own_other kinds.Ldp from (steps.Noticed k peer) own = tt
own_other kinds.Bgp from steps.Timers own = tt
own_other kinds.Ldp from steps.Timers own = tt
own_other kinds.Bgp from steps.Rerouted own = tt
own_other kinds.Ldp from steps.Rerouted own = tt

-- the message is one of the kind
abbrev pub IsOfKind : Kind → SessionMessage → Type 0
IsOfKind kinds.Bgp (Bgp message) = Unit {0}
IsOfKind kinds.Ldp (Label message) = Unit {0}
IsOfKind kind other = ⊥

-- ---- nodes that are not called stay as they are

abbrev StaysAt : Nodes → NodeId → Option (Stepped Nodes) → Type 0
StaysAt nodes m None = ⊤
StaysAt nodes m (Some new) = new.state.node m ≡ nodes.node m

elsewhere : (nodes : Nodes) (n m : NodeId) (state : NodeState) → m ≢ n → (with_node nodes n state).node m ≡ nodes.node m
elsewhere nodes n m state ne = ap (λ (t : Bool). cond t state (nodes.node m)) (node_apart m n ne)

called_elsewhere : (nodes : Nodes) (n m : NodeId) (state : NodeState) (call : steps.Call) → m ≢ n → StaysAt nodes m (node_called nodes n state call)
called_elsewhere nodes n m (Edge edge) call ne = by (edge_step (place_of nodes n) nodes.clock edge call)
  where
    by : (o : Option EdgeStepped) → StaysAt nodes m (o >>? λ new. Some (record {
      state = with_node nodes n (Edge new.edge);
      puts = bgp_puts (place_of nodes n) edge.control new.edge.control
          ++ flat_map (label_puts n (addr_of nodes.scenario n) (label_place_of nodes n) nodes.clock) new.row;
    }))
    by None = tt
    by (Some new) = elsewhere nodes n m (Edge new.edge) ne
called_elsewhere nodes n m (CoreNode part) call ne = by (own_label_call call)
  where
    by : (o : Option labels.Call) → StaysAt nodes m (core_called nodes n part o)
    by None = refl
    by (Some own) = step own (label_step (label_place_of nodes n) nodes.clock part own)
      where
        step : (own : labels.Call) (o : Option settling.Stepped) → StaysAt nodes m (o >>? λ new. Some (record {
          state = with_node nodes n (CoreNode new.part);
          puts = label_puts n (addr_of nodes.scenario n) (label_place_of nodes n) nodes.clock (record { old = part; call = own; new = new });
        }))
        step own None = tt
        step own (Some new) = elsewhere nodes n m (CoreNode new.part) ne

-- ---- what is kept

-- What a node keeps of a neighbour, by the messages that it took from there: no other call adds to it.
pub record Follower (kind : Kind) (from to : NodeId) (P : List SessionMessage → NodeState → Type 0) : Type 0 where
  pub called : (ms : List SessionMessage) (nodes : Nodes) (state : NodeState) (call : steps.Call) (new : Stepped Nodes) → nodes.node to ≡ state
      → IsOther kind from call → node_called nodes to state call ≡ Some new → P ms state → P ms (new.state.node to)
  pub taken : (ms : List SessionMessage) (nodes : Nodes) (state : NodeState) (message : SessionMessage) (new : Stepped Nodes) → nodes.node to ≡ state
      → IsOfKind kind message → node_called nodes to state (call_of from message) ≡ Some new → P ms state → P (ms ++ message ∷ []) (new.state.node to)
  pub noticed : (nodes : Nodes) (state : NodeState) (new : Stepped Nodes) → nodes.node to ≡ state
      → node_called nodes to state (steps.Noticed kind from) ≡ Some new → P [] (new.state.node to)
  pub fresh : (ms : List SessionMessage) (scenario : Scenario) → P ms (fresh_node scenario to)

module _ (kind : Kind) (from to : NodeId) (P : List SessionMessage → NodeState → Type 0) (f : Follower kind from to P) where
  abbrev over : Direction
  over = direction kind from to

  -- it holds of the state after, if there is one
  abbrev pub StateHas : List SessionMessage → Option (Stepped Nodes) → Type 0
  StateHas ms None = ⊤
  StateHas ms (Some new) = P ms (new.state.node to)

  abbrev pub NetworkHas : List SessionMessage → Option (Behind (OctetNetwork Nodes)) → Type 0
  NetworkHas ms None = ⊤
  NetworkHas ms (Some new) = P ms (new.network.state.node to)

  -- a node is called, or takes a message
  node_has : (ms : List SessionMessage) (nodes : Nodes) (n : NodeId) (call : steps.Call) → (n ≡ to → IsOther kind from call) → P ms (nodes.node to)
      → StateHas ms (node_called nodes n (nodes.node n) call)
  node_has ms nodes n call other p = by (node_cases to n)
    where
      there : (ne : to ≢ n) (o : Option (Stepped Nodes)) → StaysAt nodes to o → StateHas ms o
      there ne None s = tt
      there ne (Some new) s = subst (P ms) (sym s) p

      here : (o : Option (Stepped Nodes)) → node_called nodes to (nodes.node to) call ≡ o → IsOther kind from call → StateHas ms o
      here None e is = tt
      here (Some new) e is = f.called ms nodes (nodes.node to) call new refl is e p

      by : ((to ≡ n) ⊎ (to ≢ n)) → StateHas ms (node_called nodes n (nodes.node n) call)
      by (inl same) =
          subst (λ (m : NodeId). StateHas ms (node_called nodes m (nodes.node m) call)) same
          (here (node_called nodes to (nodes.node to) call) refl (other (sym same)))
      by (inr ne) = there ne (node_called nodes n (nodes.node n) call) (called_elsewhere nodes n to (nodes.node n) call ne)

  pub call_has : (ms : List SessionMessage) (nodes : Nodes) (call : NodeCall) → IsOwn call → P ms (nodes.node to)
      → StateHas ms (system.called call nodes)
  call_has ms nodes (Own n call) own p = node_has ms nodes n call (λ e. own_other kind from call own) p
  call_has ms nodes (Elapse ticks) own p = p
  call_has ms nodes (Price a b cost) own p = p
  call_has ms nodes (Follow n) own p = node_has ms (following nodes n) n steps.Rerouted (λ e. own_other kind from steps.Rerouted tt) p
  call_has ms nodes (Reset n) own p = elim (node_cases to n) [
    | inl same ↦ subst (λ (m : NodeId). P ms ((with_node nodes m (fresh_node nodes.scenario m)).node to)) same
        (subst (P ms) (sym (ap (λ (t : Bool). cond t (fresh_node nodes.scenario to) (nodes.node to)) (node_itself to to refl)))
        (f.fresh ms nodes.scenario))
    | inr ne ↦ subst (P ms) (sym (elsewhere nodes n to (fresh_node nodes.scenario n) ne)) p
  ]

  step_has : (ms : List SessionMessage) (old : OctetNetwork Nodes) (o : Option (Stepped Nodes)) → StateHas ms o → NetworkHas ms (with_step old o)
  step_has ms old None h = tt
  step_has ms old (Some new) h = h

  bound : (ms all : List SessionMessage) (o : Option (Behind (OctetNetwork Nodes))) (next : OctetNetwork Nodes → Option (Behind (OctetNetwork Nodes)))
      → NetworkHas ms o → ((mid : OctetNetwork Nodes) → P ms (mid.state.node to) → NetworkHas all (next mid))
      → NetworkHas all (o >>? λ mid. with_earlier mid.puts (next mid.network))
  bound ms all None next h g = tt
  bound ms all (Some mid) next h g = by (next mid.network) (g mid.network h)
    where
      by : (o : Option (Behind (OctetNetwork Nodes))) → NetworkHas all o → NetworkHas all (with_earlier mid.puts o)
      by None x = tt
      by (Some new) x = x

  -- messages of another direction
  pub others_taken : (way : Direction) (messages : List SessionMessage)
      → AllByRecursion (λ message. way.to ≡ to → IsOther kind from (call_of way.from message)) messages
      → (ms : List SessionMessage) (old : OctetNetwork Nodes) → P ms (old.state.node to) → NetworkHas ms (all_taken system old way messages)
  others_taken way [] other ms old p = p
  others_taken way (message ∷ more) other ms old p =
      bound ms ms (with_step old (system.taken way message old.state)) (λ mid. all_taken system mid way more)
      (step_has ms old (system.taken way message old.state) (node_has ms old.state way.to (call_of way.from message) other.0 p))
      (λ mid q. others_taken way more other.1 ms mid q)

  -- messages of the direction itself
  pub own_taken : (messages : List SessionMessage) → AllByRecursion (λ message. IsOfKind kind message) messages
      → (ms : List SessionMessage) (old : OctetNetwork Nodes) → P ms (old.state.node to)
      → NetworkHas (ms ++ messages) (all_taken system old (direction kind from to) messages)
  own_taken [] are ms old p = subst (λ (all : List SessionMessage). P all (old.state.node to)) (sym (append-nil ms)) p
  own_taken (message ∷ more) are ms old p =
      bound (ms ++ message ∷ []) (ms ++ message ∷ more) (with_step old (system.taken (direction kind from to) message old.state))
      (λ mid. all_taken system mid (direction kind from to) more)
      (step_has (ms ++ message ∷ []) old (system.taken (direction kind from to) message old.state)
      (one (system.taken (direction kind from to) message old.state) refl))
      (λ mid q. subst (λ (all : List SessionMessage). NetworkHas all (all_taken system mid (direction kind from to) more))
      (append_assoc ms (message ∷ []) more) (own_taken more are.1 (ms ++ message ∷ []) mid q))
    where
      one : (o : Option (Stepped Nodes)) → system.taken (direction kind from to) message old.state ≡ o → StateHas (ms ++ message ∷ []) o
      one None e = tt
      one (Some new) e = f.taken ms old.state (old.state.node to) message new refl are.0 e p

  -- ---- acts that move nothing

  abbrev pub IsTame : OctetAct NodeCall → Type 0
  IsTame (Move way count) = ⊥
  IsTame (Call call) = IsOwn call
  IsTame (Lose hit) = Unit {0}
  IsTame (Forget hit) = hit (direction kind from to) ≡ false
  IsTame (Join hit) = hit (direction kind from to) ≡ false

  -- the receiver's stream stays as it is
  abbrev pub StreamStays : Stream → Option (Behind (OctetNetwork Nodes)) → Type 0
  StreamStays stream None = ⊤
  StreamStays stream (Some new) = new.network.stream (direction kind from to) ≡ stream

  bound_stream : (stream : Stream) (o : Option (Behind (OctetNetwork Nodes))) (next : OctetNetwork Nodes → Option (Behind (OctetNetwork Nodes)))
      → StreamStays stream o → ((mid : OctetNetwork Nodes) → mid.stream (direction kind from to) ≡ stream → StreamStays stream (next mid))
      → StreamStays stream (o >>? λ mid. with_earlier mid.puts (next mid.network))
  bound_stream stream None next h g = tt
  bound_stream stream (Some mid) next h g = by (next mid.network) (g mid.network h)
    where
      by : (o : Option (Behind (OctetNetwork Nodes))) → StreamStays stream o → StreamStays stream (with_earlier mid.puts o)
      by None x = tt
      by (Some new) x = x

  step_stream : (stream : Stream) (old : OctetNetwork Nodes) (o : Option (Stepped Nodes)) → old.stream (direction kind from to) ≡ stream
      → StreamStays stream (with_step old o)
  step_stream stream old None e = tt
  step_stream stream old (Some new) e = e

  pub taken_stream : (way : Direction) (messages : List SessionMessage) (stream : Stream) (old : OctetNetwork Nodes)
      → old.stream (direction kind from to) ≡ stream → StreamStays stream (all_taken system old way messages)
  taken_stream way [] stream old e = e
  taken_stream way (message ∷ more) stream old e =
      bound_stream stream (with_step old (system.taken way message old.state)) (λ mid. all_taken system mid way more)
      (step_stream stream old (system.taken way message old.state) e) (λ mid x. taken_stream way more stream mid x)

  act_has : (ms : List SessionMessage) (old : OctetNetwork Nodes) (one : OctetAct NodeCall) → IsTame one → P ms (old.state.node to)
      → NetworkHas ms (octet_act system old one)
  act_has ms old (Move way count) tame p = absurd tame
  act_has ms old (Call call) tame p = step_has ms old (system.called call old.state) (call_has ms old.state call tame p)
  act_has ms old (Lose hit) tame p = p
  act_has ms old (Forget hit) tame p = p
  act_has ms old (Join hit) tame p = p

  act_stream : (stream : Stream) (old : OctetNetwork Nodes) (one : OctetAct NodeCall) → IsTame one → old.stream (direction kind from to) ≡ stream
      → StreamStays stream (octet_act system old one)
  act_stream stream old (Move way count) tame e = absurd tame
  act_stream stream old (Call call) tame e = step_stream stream old (system.called call old.state) e
  act_stream stream old (Lose hit) tame e = e
  act_stream stream old (Forget hit) tame e =
      ap (λ (t : Bool). cond (t && not (old.joined (direction kind from to))) unfed (old.stream (direction kind from to))) tame ∙ e
  act_stream stream old (Join hit) tame e = ap (λ (t : Bool). cond t unfed (old.stream (direction kind from to))) tame ∙ e

  pub run_has : (acts : List (OctetAct NodeCall)) → AllByRecursion IsTame acts → (ms : List SessionMessage) (old : OctetNetwork Nodes)
      → P ms (old.state.node to) → NetworkHas ms (octet_run system old acts)
  run_has [] tame ms old p = p
  run_has (one ∷ more) tame ms old p =
      bound ms ms (octet_act system old one) (λ mid. octet_run system mid more) (act_has ms old one tame.0 p) (λ mid q. run_has more tame.1 ms mid q)

  pub run_stream : (acts : List (OctetAct NodeCall)) → AllByRecursion IsTame acts → (stream : Stream) (old : OctetNetwork Nodes)
      → old.stream (direction kind from to) ≡ stream → StreamStays stream (octet_run system old acts)
  run_stream [] tame stream old e = e
  run_stream (one ∷ more) tame stream old e =
      bound_stream stream (octet_act system old one) (λ mid. octet_run system mid more) (act_stream stream old one tame.0 e)
      (λ mid x. run_stream more tame.1 stream mid x)

  -- ---- a move of another direction

  -- a unit's messages are of its kind
  spelled_kind : (own : Kind) (messages : List SessionMessage) (text : List ℕ) → Spells own messages text
      → AllByRecursion (λ message. IsOfKind own message) messages
  spelled_kind kinds.Bgp messages text (plain, same, spells) =
      subst (λ (ms : List SessionMessage). AllByRecursion (λ message. IsOfKind kinds.Bgp message) ms) (sym same) (all plain)
    where
      all : (plain : List _) → AllByRecursion (λ message. IsOfKind kinds.Bgp message) (map (λ message. Bgp message) plain)
      all [] = tt
      all (x ∷ xs) = (tt, all xs)
  spelled_kind kinds.Ldp messages text (plain, same, spells) =
      subst (λ (ms : List SessionMessage). AllByRecursion (λ message. IsOfKind kinds.Ldp message) ms) (sym same) (all plain)
    where
      all : (plain : List _) → AllByRecursion (λ message. IsOfKind kinds.Ldp message) (map (λ message. Label message) plain)
      all [] = tt
      all (x ∷ xs) = (tt, all xs)

  pub units_kind : (own : Kind) (units : List (Spelled SessionMessage)) → AreUnits (Spells own) units
      → AllByRecursion (λ message. IsOfKind own message) (messages_of units)
  units_kind own [] are = tt
  units_kind own (unit ∷ units) are =
      each_append (λ message. IsOfKind own message) unit.messages (messages_of units) (spelled_kind own unit.messages unit.octets are.0)
      (units_kind own units are.1)

  pub other_way : (way : Direction) → same_direction (direction kind from to) way ≡ false → (message : SessionMessage) → IsOfKind way.kind message
      → way.to ≡ to → IsOther kind from (call_of way.from message)
  other_way way off message is same = by kind way.kind refl refl message is
    where
      by : (own there : Kind) → kind ≡ own → way.kind ≡ there → (message : SessionMessage) → IsOfKind there message
          → IsOther own from (call_of way.from message)
      by kinds.Bgp kinds.Bgp e k (Bgp m) i =
          λ from_is. (let whole : direction kind from to ≡ way = (λ j. record { kind = (e ∙ sym k) j; from = sym from_is j; to = sym same j }) in
          let x : true ≡ false =
          sym (own_direction (direction kind from to)) ∙ ap (λ (d : Direction). same_direction (direction kind from to) d) whole ∙ off in absurd cc)
      by kinds.Ldp kinds.Ldp e k (Label m) i =
          λ from_is. (let whole : direction kind from to ≡ way = (λ j. record { kind = (e ∙ sym k) j; from = sym from_is j; to = sym same j }) in
          let x : true ≡ false =
          sym (own_direction (direction kind from to)) ∙ ap (λ (d : Direction). same_direction (direction kind from to) d) whole ∙ off in absurd cc)
      by kinds.Bgp kinds.Ldp e k (Label m) i = tt
      by kinds.Ldp kinds.Bgp e k (Bgp m) i = tt
      by kinds.Bgp kinds.Bgp e k (Label m) i = absurd i
      by kinds.Ldp kinds.Ldp e k (Bgp m) i = absurd i
      by kinds.Bgp kinds.Ldp e k (Bgp m) i = absurd i
      by kinds.Ldp kinds.Bgp e k (Label m) i = absurd i

-- ---- what a piece brings

pub fed_now : (kind : Kind) (stream : Stream) (transit : List ℕ) (pending : List SessionMessage) (count : ℕ) (c : Carried kind stream transit pending)
    (some : Came (front_of kind) (Spells kind) (stream.held ++ take count transit) (drop count transit) c.units)
    → ((fed (front_of kind) stream (take count transit)).waiting ≡ messages_of some.done)
    × ((fed (front_of kind) stream (take count transit)).held ≡ some.rest)
fed_now kind stream transit pending count c some =
    let here : List ℕ = stream.held ++ take count transit in
    let e : fed (front_of kind) stream (take count transit)
    ≡ fed_by stream (length here) (record { messages = messages_of some.done; rest = some.rest; fault = None }) =
    ap (λ (o : Option _). fed_unless (front_of kind) o stream (take count transit)) c.sound
    ∙ ap (λ (k : Cut SessionMessage SessionFault). fed_by stream (length here) k)
    (came_cut (front_of kind) (Spells kind) (stream_of kind) here (drop count transit) c.units some) in
    (ap (λ (d : Stream). d.waiting) e ∙ ap (λ (ms : List SessionMessage). ms ++ messages_of some.done) c.taken, ap (λ (d : Stream). d.held) e)
