-- Which ends of sessions are up after an act of a node.
use Rattle.std.proofs.Common.{◌≡◌, ◌∙◌, refl, sym, ap, subst, ℕ, ◌+◌, ◌==◌, ◌&&◌, ◌||◌, nat_le, Bool, true, false, cond, inl, inr, List, [], ◌∷◌, ◌++◌, map, fold, Option, None, Some, option_map, is_some, if◌then◌else◌}
use Rattle.std.specs.Ordering.{eq_by_cmp}
use Rattle.std.specs.FinMap as maps
use Rattle.std.specs.FinMap.{FinMap, find}
use Rattle.mv_base.specs.Number.{◌>>?◌}
use Rattle.mv_base.specs.declared.ids.NodeId.{NodeId}
use Rattle.bgp_messages.specs.declared.bgp_attributes.update.Message.{Message}
use Rattle.bgp_messages.specs.bgp_update.Table.{changes_of}
use Rattle.scenario_defs.specs.declared.event.Kind.{Kind}
use Rattle.scenario_defs.specs.declared.event.Kind.TheVariants as kinds
use Rattle.mvpn_model.specs.Unready.{SessionsStand, is_held}
use Rattle.mvpn_model.specs.declared.readiness.UpEnd.{UpEnd}
use Rattle.label_defs.specs.Keys.{node_cmp}
use Rattle.label_defs.specs.LabelData.{LabelData}
use Rattle.label_defs.specs.Steps.{label_step}
use Rattle.label_defs.specs.Steps as label_steps
use Rattle.label_defs.specs.declared.end.End.{End}
use Rattle.label_defs.proofs.KeyLemmas.{node_apart, node_cases, node_cmp_exact, node_cmp_total, node_itself}
use Rattle.label_defs.proofs.SetLemmas.{cut_here, cut_other, put_here, put_other}
use Rattle.network_defs.specs.session_defs.Message.{Bgp, Label, SessionMessage}
use Rattle.network_defs.specs.session_defs.Octets as octets
use Rattle.network_defs.specs.session_defs.Octets.{OctetNetwork, octet_act}
use Rattle.network_defs.specs.session_defs.System.{Behind, Stepped}
use Rattle.network_defs.specs.declared.session_defs.direction.Direction.{Direction}
use Rattle.edge_defs.specs.Edge.{Control, EdgeData, Taken}
use Rattle.edge_defs.specs.Place.{EdgePlace, addr_of}
use Rattle.edge_defs.specs.Steps as steps
use Rattle.edge_defs.specs.Steps.{Call, EdgeStepped, Noticed, Raised, Rerouted, Timers, changed_leaves, control_step, edge_step, label_row, one_call, own_label_call, part_after, peers_run, raised_after, taken_change, taken_run, with_update}
use Rattle.edge_defs.specs.Tunnels.{leaves}
use Rattle.network_defs.specs.node_defs.EdgeState.{call_of, edge_puts}
use Rattle.network_defs.specs.node_defs.Puts.{label_puts}
use Rattle.network_defs.specs.Counts.{direction, is_bgp_up, is_end_up}
use Rattle.network_defs.specs.Nodes.{Nodes, NodeState, Edge, CoreNode, following, part_of, place_of, label_place_of, with_node}
use Rattle.network_defs.specs.System.{Follow, Own, core_called, edge_stepped, node_called, system}
use Rattle.network_laws.proofs.ready_laws.Ends.{Holds, end_run, end_with, holds_then, new_end, up_end}
use Rattle.network_laws.proofs.ready_laws.Nodes.{call_stand, end_of, holds_as}
use Rattle.network_laws.proofs.ready_laws.Octets.{Leads, Stands, call_stands, follow_stands, leads_then, move_stands}
use Rattle.wire_laws.specs.Edges.{begins}
use Rattle.wire_laws.specs.Ends.{HasCall, end_after, hold_after, hold_timed, is_hold_run, is_raise}

-- ---- one peer

-- whether an end with the peer is up where that of one peer comes up or goes down
abbrev set_for : NodeId → Bool → NodeId → Bool → Bool
set_for own up peer old = cond (own.0 == peer.0) up old

peers_put : (peers : FinMap node_cmp Taken) (own : NodeId) (taken : Taken) (peer : NodeId)
    → is_some (maps.get (maps.insert peers own taken) peer) ≡ set_for own true peer (is_some (maps.get peers peer))
peers_put peers own taken peer = elim (node_cases own peer) [
  | inl e ↦ ap (λ (p : NodeId). is_some (maps.get (maps.insert peers own taken) p)) (sym e)
      ∙ (ap is_some (put_here node_cmp_total node_cmp_exact peers own taken)
      ∙ ap (λ (b : Bool). cond b true (is_some (maps.get peers peer))) (sym (node_itself own peer e)))
  | inr ne ↦ ap is_some (put_other node_cmp_total node_cmp_exact peers own taken peer (λ e. ne (sym e)))
      ∙ ap (λ (b : Bool). cond b true (is_some (maps.get peers peer))) (sym (node_apart own peer ne))
]

peers_cut : (peers : FinMap node_cmp Taken) (own peer : NodeId)
    → is_some (maps.get (maps.remove peers own) peer) ≡ set_for own false peer (is_some (maps.get peers peer))
peers_cut peers own peer = elim (node_cases own peer) [
  | inl e ↦ ap (λ (p : NodeId). is_some (maps.get (maps.remove peers own) p)) (sym e)
      ∙ (ap is_some (cut_here node_cmp_total node_cmp_exact peers own)
      ∙ ap (λ (b : Bool). cond b false (is_some (maps.get peers peer))) (sym (node_itself own peer e)))
  | inr ne ↦ ap is_some (cut_other node_cmp_total node_cmp_exact peers own peer (λ e. ne (sym e)))
      ∙ ap (λ (b : Bool). cond b false (is_some (maps.get peers peer))) (sym (node_apart own peer ne))
]

-- ---- the peers of an edge

-- an update changes the table of a peer that is there, and nothing where it is not
updated : (now : ℕ) (own : NodeId) (message : Message) (control : Control) (peer : NodeId)
    → is_some (maps.get (with_update now own message control).peers peer) ≡ is_some (maps.get control.peers peer)
updated now own message control peer = by (maps.get control.peers own) refl
  where
    still : (b : Bool) → is_some (maps.get control.peers own) ≡ true → (own.0 == peer.0) ≡ b
        → cond b true (is_some (maps.get control.peers peer)) ≡ is_some (maps.get control.peers peer)
    still true there e = elim (node_cases own peer) [
      | inl same ↦ sym (ap (λ (p : NodeId). is_some (maps.get control.peers p)) (sym same) ∙ there)
      | inr ne ↦ absurd (let f = node_apart own peer ne in cc)
    ]
    still false there e = refl

    by : (o : Option Taken) → maps.get control.peers own ≡ o
        → is_some (maps.get (elim o as (λ _. Control) [
          | None ↦ control
          | Some taken ↦ record control { peers = maps.insert control.peers own (fold (taken_change now) taken (changes_of message)) }
        ]).peers peer) ≡ is_some (maps.get control.peers peer)
    by None e = refl
    by (Some taken) e =
        peers_put control.peers own (fold (taken_change now) taken (changes_of message)) peer ∙ still (own.0 == peer.0) (ap is_some e) refl

run_found : (place : EdgePlace) (now : ℕ) (peer : NodeId) (entries : List (NodeId × Taken))
    → is_some (find node_cmp peer (map (taken_run place now) entries)) ≡ is_some (find node_cmp peer entries)
run_found place now peer [] = refl
run_found place now peer (entry ∷ more) = by (eq_by_cmp node_cmp peer entry.0) (run_found place now peer more)
  where
    by : (b : Bool) → is_some (find node_cmp peer (map (taken_run place now) more)) ≡ is_some (find node_cmp peer more)
        → is_some (cond b (Some (taken_run place now entry).1) (find node_cmp peer (map (taken_run place now) more)))
        ≡ is_some (cond b (Some entry.1) (find node_cmp peer more))
    by true rest = refl
    by false rest = rest

timed : (place : EdgePlace) (now : ℕ) (peers : FinMap node_cmp Taken) (peer : NodeId)
    → is_some (maps.get (peers_run place now peers) peer) ≡ is_some (maps.get peers peer)
timed place now peers peer =
    ap is_some (maps.get-from_entries node_cmp_total (map (taken_run place now) (maps.entries peers)) peer)
    ∙ (run_found place now peer (maps.entries peers) ∙ ap is_some (sym (maps.get-entries peers peer)))

-- whether an end is up after a call of its node
abbrev up_by : Call → Kind → NodeId → Bool → Bool
up_by call kind peer old = cond (begins call kind peer) (is_raise call) old

peers_up : (place : EdgePlace) (now : ℕ) (control : Control) (call : Call) (peer : NodeId)
    → is_some (maps.get (control_step place now control call).peers peer) ≡ up_by call kinds.Bgp peer (is_some (maps.get control.peers peer))
peers_up place now control (Raised kinds.Bgp own) peer = peers_put control.peers own maps.empty peer
peers_up place now control (Raised kinds.Ldp own) peer = refl
peers_up place now control (Noticed kinds.Bgp own) peer = peers_cut control.peers own peer
peers_up place now control (Noticed kinds.Ldp own) peer = refl
peers_up place now control (steps.Update own message) peer = updated now own message control peer
peers_up place now control (steps.Label own message) peer = refl
peers_up place now control (steps.Customer call) peer = refl
peers_up place now control Timers peer = timed place now control.peers peer
peers_up place now control Rerouted peer = refl

-- ---- over BGP: a step of a node

-- the ends over BGP after a call of the node
abbrev BgpBehind : NodeId → Call → Nodes → Nodes → Type 0
BgpBehind n call old new = (m peer : NodeId) → is_bgp_up (new.node m) peer ≡ end_after n call kinds.Bgp m peer (is_bgp_up (old.node m) peer)

-- the ends over BGP are the same
abbrev BgpSame : Nodes → Nodes → Type 0
BgpSame old new = (m peer : NodeId) → is_bgp_up (new.node m) peer ≡ is_bgp_up (old.node m) peer

ends_by : (n : NodeId) (call : Call) (old new : Nodes)
    → ((peer : NodeId) → is_bgp_up (new.node n) peer ≡ up_by call kinds.Bgp peer (is_bgp_up (old.node n) peer))
    → ((m : NodeId) → (m ≡ n → ⊥) → new.node m ≡ old.node m)
    → BgpBehind n call old new
ends_by n call old new here elsewhere m peer = elim (node_cases m n) [
  | inl e ↦
      ap (λ (x : NodeId). is_bgp_up (new.node x) peer) e
      ∙ (here peer ∙ (ap (λ (x : NodeId). up_by call kinds.Bgp peer (is_bgp_up (old.node x) peer)) (sym e)
      ∙ ap (λ (b : Bool). cond (b && begins call kinds.Bgp peer) (is_raise call) (is_bgp_up (old.node m) peer)) (sym (node_itself m n e))))
  | inr ne ↦
      ap (λ (x : NodeState). is_bgp_up x peer) (elsewhere m ne)
      ∙ ap (λ (b : Bool). cond (b && begins call kinds.Bgp peer) (is_raise call) (is_bgp_up (old.node m) peer)) (sym (node_apart m n ne))
]

-- one node becomes another, and its ends are those that the call leaves
node_ends : (n : NodeId) (call : Call) (old : Nodes) (state : NodeState)
    → ((peer : NodeId) → is_bgp_up state peer ≡ up_by call kinds.Bgp peer (is_bgp_up (old.node n) peer))
    → BgpBehind n call old (with_node old n state)
node_ends n call old state h =
    ends_by n call old (with_node old n state) (λ peer. ap (λ (b : Bool). is_bgp_up (cond b state (old.node n)) peer) (node_itself n n refl) ∙ h peer)
    (λ m ne. ap (λ (b : Bool). cond b state (old.node m)) (node_apart m n ne))

-- what is so after each step is so after the one that was made
always : {A B : Type 0} (P : B → Type 0) (o : Option A) (next : A → B) → ((x : A) → P (next x)) → Holds P (o >>? λ x. Some (next x))
always P None next h = tt
always P (Some x) next h = h x

edge_ends : (n : NodeId) (call : Call) (old : Nodes) (edge : EdgeData) → old.node n ≡ Edge edge
    → Holds (λ (new : Stepped Nodes). BgpBehind n call old new.state) (edge_stepped old n edge call)
edge_ends n call old edge is =
    let place = place_of old n in
    let control = control_step place old.clock edge.control call in
    let calls = one_call (own_label_call call) ++ changed_leaves (leaves place edge.control) (leaves place control) in
    holds_then (λ (new : EdgeStepped). new.edge.control ≡ control) (λ (new : Stepped Nodes). BgpBehind n call old new.state)
    (edge_step place old.clock edge call)
    (λ new. Some (record { state = with_node old n (Edge new.edge); puts = edge_puts place old.clock edge new }))
    (always (λ (new : EdgeStepped). new.edge.control ≡ control) (label_row place old.clock edge.part calls)
    (λ row. record {
      edge = record { control = control; part = part_after edge.part row; raised = raised_after old.clock edge.raised call };
      row =
          row;
    }) (λ row. refl))
    (λ new h. node_ends n call old (Edge new.edge) (λ peer.
    ap (λ (c : Control). is_some (maps.get c.peers peer)) h
    ∙ (peers_up place old.clock edge.control call peer ∙ ap (λ (x : NodeState). up_by call kinds.Bgp peer (is_bgp_up x peer)) (sym is))))

-- a core node has no end over BGP
core_stays : (call : Call) (peer : NodeId) → ((own : NodeId) → call ≡ Raised kinds.Bgp own → ⊥) → false ≡ up_by call kinds.Bgp peer false
core_stays (Raised kinds.Bgp own) peer none = absurd (none own refl)
core_stays (Raised kinds.Ldp own) peer none = refl
core_stays (Noticed kinds.Bgp own) peer none = by (own.0 == peer.0)
  where
    by : (b : Bool) → false ≡ cond b false false
    by true = refl
    by false = refl
core_stays (Noticed kinds.Ldp own) peer none = refl
core_stays (steps.Update own message) peer none = refl
core_stays (steps.Label own message) peer none = refl
core_stays (steps.Customer call) peer none = refl
core_stays Timers peer none = refl
core_stays Rerouted peer none = refl

core_ends : (n : NodeId) (call : Call) (old : Nodes) (part : LabelData) (own : Option label_steps.Call) → old.node n ≡ CoreNode part
    → ((peer : NodeId) → call ≡ Raised kinds.Bgp peer → ⊥)
    → Holds (λ (new : Stepped Nodes). BgpBehind n call old new.state) (core_called old n part own)
core_ends n call old part own is none = by own
  where
    at_core : (peer : NodeId) → false ≡ up_by call kinds.Bgp peer (is_bgp_up (old.node n) peer)
    at_core peer = core_stays call peer none ∙ ap (λ (x : NodeState). up_by call kinds.Bgp peer (is_bgp_up x peer)) (sym is)

    by : (o : Option label_steps.Call) → Holds (λ (new : Stepped Nodes). BgpBehind n call old new.state) (core_called old n part o)
    by None = ends_by n call old old (λ peer. ap (λ (x : NodeState). is_bgp_up x peer) is ∙ at_core peer) (λ m ne. refl)
    by (Some c) =
        always (λ (new : Stepped Nodes). BgpBehind n call old new.state) (label_step (label_place_of old n) old.clock part c)
        (λ new. record {
          state = with_node old n (CoreNode new.part);
          puts = label_puts n (addr_of old.scenario n) (label_place_of old n) old.clock (record { old = part; call = c; new = new });
        }) (λ new. node_ends n call old (CoreNode new.part) at_core)

-- the node of a raise over BGP is an edge
abbrev RaisesAtEdge : NodeState → Call → Type 0
RaisesAtEdge state call = (peer : NodeId) → call ≡ Raised kinds.Bgp peer → (edge : EdgeData) × (state ≡ Edge edge)

bgp_ends : (n : NodeId) (call : Call) (old : Nodes) (state : NodeState) → old.node n ≡ state → RaisesAtEdge state call
    → Holds (λ (new : Stepped Nodes). BgpBehind n call old new.state) (node_called old n state call)
bgp_ends n call old (Edge edge) is has = edge_ends n call old edge is
bgp_ends n call old (CoreNode part) is has =
    core_ends n call old part (own_label_call call) is (λ peer e. (let found = has peer e in let clash = found.1 in absurd cc))

-- a call that begins nothing over BGP leaves the ends as they are
calm_ends : (n : NodeId) (call : Call) (old new : Nodes) → ((peer : NodeId) → begins call kinds.Bgp peer ≡ false) → BgpBehind n call old new
    → BgpSame old new
calm_ends n call old new calm h m peer =
    h m peer ∙ (ap (λ (b : Bool). cond ((m.0 == n.0) && b) (is_raise call) (is_bgp_up (old.node m) peer)) (calm peer) ∙ by (m.0 == n.0))
  where
    by : (b : Bool) → cond (b && false) (is_raise call) (is_bgp_up (old.node m) peer) ≡ is_bgp_up (old.node m) peer
    by true = refl
    by false = refl

call_same : (n : NodeId) (call : Call) (old : Nodes) (state : NodeState) → old.node n ≡ state → ((peer : NodeId) → begins call kinds.Bgp peer ≡ false)
    → RaisesAtEdge state call
    → Holds (λ (new : Stepped Nodes). BgpSame old new.state) (node_called old n state call)
call_same n call old state is calm has =
    holds_as (λ (new : Stepped Nodes). BgpBehind n call old new.state) (λ (new : Stepped Nodes). BgpSame old new.state) (node_called old n state call)
    (λ new h. calm_ends n call old new.state calm h) (bgp_ends n call old state is has)

-- ---- over BGP: an act

-- the network after an act is that after its step
step_leads : (P : Nodes → Type 0) (old : OctetNetwork Nodes) (stepped : Option (Stepped Nodes)) → Holds (λ (new : Stepped Nodes). P new.state) stepped
    → Leads (λ network. P network.state) (octets.with_step old stepped)
step_leads P old None h = tt
step_leads P old (Some new) h = h

message_same : (n from : NodeId) (message : SessionMessage) (old : Nodes)
    → Holds (λ (new : Stepped Nodes). BgpSame old new.state) (node_called old n (old.node n) (call_of from message))
message_same n from (Bgp message) old = call_same n (steps.Update from message) old (old.node n) refl (λ peer. refl) (λ peer e. absurd cc)
message_same n from (Label message) old = call_same n (steps.Label from message) old (old.node n) refl (λ peer. refl) (λ peer e. absurd cc)

messages_same : (base : Nodes) (over : Direction) (messages : List SessionMessage) (old : OctetNetwork Nodes) → BgpSame base old.state
    → Leads (λ network. BgpSame base network.state) (octets.all_taken system old over messages)
messages_same base over [] old s = s
messages_same base over (message ∷ more) old s =
    leads_then (λ network. BgpSame base network.state) (λ network. BgpSame base network.state)
    (octets.with_step old (system.taken over message old.state)) (λ network. octets.all_taken system network over more)
    (step_leads (BgpSame base) old (system.taken over message old.state)
    (holds_as (λ (new : Stepped Nodes). BgpSame old.state new.state) (λ (new : Stepped Nodes). BgpSame base new.state)
    (system.taken over message old.state)
    (λ new h m peer. h m peer ∙ s m peer) (message_same over.to over.from message old.state)))
    (λ network p. messages_same base over more network p)

moves_same : (over : Direction) (count : ℕ) (old : OctetNetwork Nodes)
    → Leads (λ network. BgpSame old.state network.state) (octet_act system old (octets.Move over count))
moves_same over count old = by (old.joined over)
  where
    by : (b : Bool) → Leads (λ network. BgpSame old.state network.state)
        (if b then octets.moved system old over count else Some (record { network = old; puts = [] }))
    by true = messages_same old.state over _ _ (λ m peer. refl)
    by false = λ m peer. refl

-- ---- over LDP

-- the state of the sessions, by the network
abbrev seen : OctetNetwork Nodes → SessionsStand
seen network =
    record { clock = network.state.clock; joined = λ kind a b. network.joined (direction kind a b); end = λ kind n peer. end_of network.state n peer }

stands : (network : OctetNetwork Nodes) → Stands network.state.scenario (seen network) network
stands network = record { nodes = record { place = refl; clock = refl; ends = λ n peer. refl }; joined = λ kind a b. refl }

-- the network that an act leads to
leads_to : (P : OctetNetwork Nodes → Type 0) (found : Option (Behind (OctetNetwork Nodes))) (new : Behind (OctetNetwork Nodes)) → found ≡ Some new
    → Leads P found → P new.network
leads_to P found new e h = subst (Leads P) e h

module _ (network : OctetNetwork Nodes) (new : Behind (OctetNetwork Nodes)) where
  called : (n : NodeId) (call : Call) → octet_act system network (octets.Call (Own n call)) ≡ Some new → (m peer : NodeId)
      → end_of new.network.state m peer ≡ cond (m.0 == n.0)
      (end_with network.state.scenario.life network.state.clock (own_label_call call) peer (end_of network.state m peer))
      (end_of network.state m peer)
  called n call e =
      (leads_to (Stands network.state.scenario (call_stand network.state.scenario n call (seen network)))
      (octet_act system network (octets.Call (Own n call))) new e
      (call_stands network.state.scenario (seen network) network n call (stands network))).nodes.ends

  followed : (n : NodeId) → octet_act system network (octets.Call (Follow n)) ≡ Some new → (m peer : NodeId)
      → end_of new.network.state m peer ≡ end_of network.state m peer
  followed n e =
      (leads_to (Stands network.state.scenario (seen network)) (octet_act system network (octets.Call (Follow n))) new e
      (follow_stands network.state.scenario (seen network) network n (stands network))).nodes.ends

  moved : (over : Direction) (count : ℕ) → octet_act system network (octets.Move over count) ≡ Some new → (m peer : NodeId)
      → end_of new.network.state m peer ≡ end_of network.state m peer
  moved over count e =
      (leads_to (Stands network.state.scenario (seen network)) (octet_act system network (octets.Move over count)) new e
      (move_stands network.state.scenario (seen network) network over count (stands network))).nodes.ends

up_is : (o : Option End) → is_some o ≡ is_some (option_map up_end o)
up_is None = refl
up_is (Some end) = refl

held_is : (o : Option End) → elim o [ None ↦ false | Some end ↦ end.held ] ≡ is_held (option_map up_end o)
held_is None = refl
held_is (Some end) = refl

either_node : (a b : NodeId) → (a.0 == b.0) ≡ (b.0 == a.0)
either_node a b = elim (node_cases a b) [
  | inl e ↦ node_itself a b e ∙ sym (node_itself b a (sym e))
  | inr ne ↦ node_apart a b ne ∙ sym (node_apart b a (λ e. ne (sym e)))
]

-- a test of an end where that of one peer becomes another
tested : (test : Option UpEnd → Bool) (own peer : NodeId) (end old : Option UpEnd)
    → test (cond (peer.0 == own.0) end old) ≡ cond (own.0 == peer.0) (test end) (test old)
tested test own peer end old = ap (λ (b : Bool). test (cond b end old)) (either_node peer own) ∙ by (own.0 == peer.0)
  where
    by : (b : Bool) → test (cond b end old) ≡ cond b (test end) (test old)
    by true = refl
    by false = refl

run_up : (life now : ℕ) (old : Option UpEnd) → is_some (end_run life now old) ≡ is_some old
run_up life now None = refl
run_up life now (Some end) = refl

ends_up : (life now : ℕ) (call : Call) (peer : NodeId) (old : Option UpEnd)
    → is_some (end_with life now (own_label_call call) peer old) ≡ up_by call kinds.Ldp peer (is_some old)
ends_up life now (Raised kinds.Ldp own) peer old = tested (λ (o : Option UpEnd). is_some o) own peer (Some (new_end now)) old
ends_up life now (Noticed kinds.Ldp own) peer old = tested (λ (o : Option UpEnd). is_some o) own peer None old
ends_up life now (Raised kinds.Bgp own) peer old = refl
ends_up life now (Noticed kinds.Bgp own) peer old = refl
ends_up life now (steps.Update own message) peer old = refl
ends_up life now (steps.Label own message) peer old = refl
ends_up life now (steps.Customer call) peer old = refl
ends_up life now Timers peer old = run_up life now old
ends_up life now Rerouted peer old = refl

holds_run : (life now : ℕ) (call : Call) (peer : NodeId) (old : Option UpEnd) → (call ≡ Timers → ⊥)
    → is_held (end_with life now (own_label_call call) peer old) ≡ cond (begins call kinds.Ldp peer) false (is_held old)
holds_run life now (Raised kinds.Ldp own) peer old other = tested is_held own peer (Some (new_end now)) old
holds_run life now (Noticed kinds.Ldp own) peer old other = tested is_held own peer None old
holds_run life now (Raised kinds.Bgp own) peer old other = refl
holds_run life now (Noticed kinds.Bgp own) peer old other = refl
holds_run life now (steps.Update own message) peer old other = refl
holds_run life now (steps.Label own message) peer old other = refl
holds_run life now (steps.Customer call) peer old other = refl
holds_run life now Timers peer old other = absurd (other refl)
holds_run life now Rerouted peer old other = refl

-- a test of the node's end by one of what is there
at_one : (test : Option UpEnd → Bool) (here begun : Bool) (end : Option UpEnd) (thereafter : Bool) (old : Option UpEnd)
    → test end ≡ cond begun thereafter (test old) → test (cond here end old) ≡ cond (here && begun) thereafter (test old)
at_one test true begun end thereafter old h = h
at_one test false begun end thereafter old h = refl

-- ---- the laws

module _ (network : OctetNetwork Nodes) (new : Behind (OctetNetwork Nodes)) where
  abbrev up_at : Nodes → NodeId → NodeId → Bool
  up_at state m peer = is_some (maps.get (part_of (state.node m)).ends peer)

  pub calls_ends : (n : NodeId) (call : Call) → octet_act system network (octets.Call (Own n call)) ≡ Some new → HasCall n network call
      → (kind : Kind) (m peer : NodeId)
      → is_end_up kind (new.network.state.node m) peer ≡ end_after n call kind m peer (is_end_up kind (network.state.node m) peer)
  calls_ends n call e has kinds.Bgp m peer =
      leads_to (λ thereafter. BgpBehind n call network.state thereafter.state) (octet_act system network (octets.Call (Own n call))) new e
      (step_leads (BgpBehind n call network.state) network (node_called network.state n (network.state.node n) call)
      (bgp_ends n call network.state (network.state.node n) refl has)) m peer
  calls_ends n call e has kinds.Ldp m peer =
      let old : Option UpEnd = end_of network.state m peer in
      up_is (maps.get (part_of (new.network.state.node m)).ends peer)
      ∙ (ap (λ (o : Option UpEnd). is_some o) (called network new n call e m peer)
      ∙ (at_one (λ (o : Option UpEnd). is_some o) (m.0 == n.0) (begins call kinds.Ldp peer)
      (end_with network.state.scenario.life network.state.clock (own_label_call call) peer old) (is_raise call) old
      (ends_up network.state.scenario.life network.state.clock call peer old)
      ∙ ap (λ (b : Bool). end_after n call kinds.Ldp m peer b) (sym (up_is (maps.get (part_of (network.state.node m)).ends peer)))))

  -- ends over LDP that are the same are up alike
  same_ends : ((m peer : NodeId) → end_of new.network.state m peer ≡ end_of network.state m peer) → (m peer : NodeId)
      → up_at new.network.state m peer ≡ up_at network.state m peer
  same_ends same m peer =
      up_is (maps.get (part_of (new.network.state.node m)).ends peer)
      ∙ (ap (λ (o : Option UpEnd). is_some o) (same m peer) ∙ sym (up_is (maps.get (part_of (network.state.node m)).ends peer)))

  same_holds : ((m peer : NodeId) → end_of new.network.state m peer ≡ end_of network.state m peer) → (m peer : NodeId)
      → is_hold_run (new.network.state.node m) peer ≡ is_hold_run (network.state.node m) peer
  same_holds same m peer =
      held_is (maps.get (part_of (new.network.state.node m)).ends peer)
      ∙ (ap is_held (same m peer) ∙ sym (held_is (maps.get (part_of (network.state.node m)).ends peer)))

  pub follows_ends : (n : NodeId) → octet_act system network (octets.Call (Follow n)) ≡ Some new → (kind : Kind) (m peer : NodeId)
      → is_end_up kind (new.network.state.node m) peer ≡ is_end_up kind (network.state.node m) peer
  follows_ends n e kinds.Bgp m peer =
      leads_to (λ thereafter. BgpSame network.state thereafter.state) (octet_act system network (octets.Call (Follow n))) new e
      (step_leads (BgpSame network.state) network (node_called (following network.state n) n (network.state.node n) Rerouted)
      (call_same n Rerouted (following network.state n) (network.state.node n) refl (λ p. refl) (λ p c. absurd cc))) m peer
  follows_ends n e kinds.Ldp m peer = same_ends (followed network new n e) m peer

  pub moves_ends : (over : Direction) (count : ℕ) → octet_act system network (octets.Move over count) ≡ Some new → (kind : Kind) (m peer : NodeId)
      → is_end_up kind (new.network.state.node m) peer ≡ is_end_up kind (network.state.node m) peer
  moves_ends over count e kinds.Bgp m peer =
      leads_to (λ thereafter. BgpSame network.state thereafter.state) (octet_act system network (octets.Move over count)) new e
      (moves_same over count network) m peer
  moves_ends over count e kinds.Ldp m peer = same_ends (moved network new over count e) m peer

  pub calls_holds : (n : NodeId) (call : Call) → octet_act system network (octets.Call (Own n call)) ≡ Some new → (call ≡ Timers → ⊥)
      → (m peer : NodeId)
      → is_hold_run (new.network.state.node m) peer ≡ hold_after n call m peer (is_hold_run (network.state.node m) peer)
  calls_holds n call e other m peer =
      let old : Option UpEnd = end_of network.state m peer in
      held_is (maps.get (part_of (new.network.state.node m)).ends peer)
      ∙ (ap is_held (called network new n call e m peer)
      ∙ (at_one is_held (m.0 == n.0) (begins call kinds.Ldp peer)
      (end_with network.state.scenario.life network.state.clock (own_label_call call) peer old) false old
      (holds_run network.state.scenario.life network.state.clock call peer old other)
      ∙ ap (λ (b : Bool). hold_after n call m peer b) (sym (held_is (maps.get (part_of (network.state.node m)).ends peer)))))

  pub timers_hold : (n : NodeId) → octet_act system network (octets.Call (Own n Timers)) ≡ Some new → (peer : NodeId)
      → is_hold_run (new.network.state.node n) peer ≡ hold_timed network.state.scenario.life network.state.clock (network.state.node n) peer
  timers_hold n e peer =
      held_is (maps.get (part_of (new.network.state.node n)).ends peer)
      ∙ (ap is_held (called network new n Timers e n peer)
      ∙ (ap (λ (b : Bool). is_held (cond b (end_run network.state.scenario.life network.state.clock (end_of network.state n peer))
      (end_of network.state n peer))) (node_itself n n refl)
      ∙ by (maps.get (part_of (network.state.node n)).ends peer)))
    where
      by : (o : Option End) → is_held (end_run network.state.scenario.life network.state.clock (option_map up_end o))
          ≡ elim o [ None ↦ false | Some end ↦ end.held || nat_le (end.raised + network.state.scenario.life + 1) network.state.clock ]
      by None = refl
      by (Some end) = refl

  pub follows_holds : (n : NodeId) → octet_act system network (octets.Call (Follow n)) ≡ Some new → (m peer : NodeId)
      → is_hold_run (new.network.state.node m) peer ≡ is_hold_run (network.state.node m) peer
  follows_holds n e m peer = same_holds (followed network new n e) m peer

  pub moves_holds : (over : Direction) (count : ℕ) → octet_act system network (octets.Move over count) ≡ Some new → (m peer : NodeId)
      → is_hold_run (new.network.state.node m) peer ≡ is_hold_run (network.state.node m) peer
  moves_holds over count e m peer = same_holds (moved network new over count e) m peer
