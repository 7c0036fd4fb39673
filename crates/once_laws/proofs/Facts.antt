-- What holds of the nodes of every run.
use Rattle.std.specs.Prelude.{⊤}
use Rattle.std.proofs.Common.{◌≡◌, ◌≢◌, ◌⊎◌, inl, inr, cond, map, length, slice_get, is_some, length-append, ℕ, ◌+◌, ◌≤◌, ◌++◌, Bool, true, false, ◌==◌, List, [], ◌∷◌, Option, Some, None, le_refl, refl, sym, ap, subst, ◌∙◌, arith}
use Rattle.std.specs.List.{AllByRecursion, fold}
use Rattle.std.specs.FinMap as maps
use Rattle.std.specs.FinMap.{find}
use Rattle.std.specs.Cmp.{Equal-is}
use Rattle.std.proofs.lemmas.List.{append_assoc}
use Rattle.std.specs.FinSet as sets
use Rattle.std.specs.Ordering.{eq_by_cmp}
use Rattle.std.proofs.lemmas.Bool.{cases_Bool, cond_both, true≢false}
use Rattle.mv_base.specs.declared.ids.NodeId.{NodeId}
use Rattle.mldp.specs.declared.mldp_fec.fec.Fec.{Fec}
use Rattle.bgp_messages.specs.declared.bgp_attributes.update.Message.{Message}
use Rattle.mldp.specs.declared.mldp_msgs.message.LabelMessage.{LabelMessage}
use Rattle.mldp.specs.declared.mldp_msgs.message.LabelMessage.TheVariants as messages
use Rattle.scenario_defs.specs.declared.event.Event.{Event}
use Rattle.scenario_defs.specs.declared.event.Event.TheVariants as events
use Rattle.scenario_defs.specs.declared.event.Kind.TheVariants as kinds
use Rattle.scenario_defs.specs.declared.event.Timed.{Timed}
use Rattle.scenario_defs.specs.declared.scenario.Scenario.{Scenario}
use Rattle.label_defs.specs.Keys.{fec_cmp}
use Rattle.label_defs.specs.LabelData as labels
use Rattle.label_defs.specs.LabelData.{Place, LabelData, use_of}
use Rattle.label_defs.specs.Settling as settling
use Rattle.label_defs.specs.Steps as label_steps
use Rattle.label_defs.specs.Steps.{effect, label_step, released, taken, with_release}
use Rattle.label_defs.specs.Settling.{with_use}
use Rattle.label_defs.specs.declared.label_use.LabelUse.{LabelUse}
use Rattle.label_defs.proofs.WithdrawLemmas.{same_leaves}
use Rattle.network_defs.specs.session_defs.System.{Stepped}
use Rattle.network_defs.specs.declared.session_defs.direction.Direction.{Direction}
use Rattle.edge_defs.specs.Edge as edges
use Rattle.edge_defs.specs.Edge.{Taken, Control, EdgeData}
use Rattle.edge_defs.specs.Flows.{flows_at}
use Rattle.edge_defs.specs.Place.{EdgePlace}
use Rattle.network_defs.specs.Costs.{Cores}
use Rattle.edge_defs.specs.Steps as steps
use Rattle.edge_defs.specs.Steps.{CustomerCall}
use Rattle.edge_defs.specs.Steps.{EdgeStepped, LabelStep, edge_step, own_label_call, changed_leaves, one_call, control_step, label_row, part_after, raised_after}
use Rattle.bgp_messages.specs.bgp_update.Table.{changes_of}
use Rattle.edge_defs.specs.Tunnels.{leaves}
use Rattle.edge_defs.proofs.LeafSteps.{fresh_leaves, leaves_follow}
use Rattle.edge_words.proofs.calm_laws.Flows.{Stands, fresh_stands, later_stands, step_stands}
use Rattle.network_defs.specs.Nodes.{NodeState, Edge, CoreNode, Nodes, is_edge, start_nodes, fresh_node, with_node, following, label_place_of, place_of}
use Rattle.network_defs.specs.Refusals.{call_for}
use Rattle.network_defs.specs.Run.{Traced, Runs}
use Rattle.network_defs.specs.System.{NodeCall, Own, Elapse, Reset, Price, Follow, node_called, core_called, nodes_called}
use Rattle.network_defs.specs.World.{World, start}
use Rattle.mv_base.specs.declared.core_link.Link.{Link}
use Rattle.mvpn_model.specs.Sessions.{sessions, edges_from, bgp_session, bgp_sessions, ldp_session}
use Rattle.scenario_defs.specs.declared.scenario.Node.{Node}
use Rattle.label_defs.specs.Keys.{node_cmp}
use Rattle.label_defs.proofs.KeyLemmas.{node_cmp_total, node_cmp_exact, node_equal, node_itself}
use Rattle.network_laws.proofs.ready_laws.Ends.{Holds}
use Rattle.once_laws.specs.Facts.{EdgeFact, NodeFact, NodesFact, FitEnd}
use Rattle.network_laws.proofs.Lists.{each_map, each_weaker, each_append}
use Rattle.once_laws.proofs.Carry.{IsOfSession, AreFit, EventMay, runs_hold, MayFor}
use Rattle.once_laws.proofs.Rests.{Rests, unfed_rests}
use Rattle.network_laws.proofs.ready_laws.Ends.{holds_from, holds_then}

-- ---- calls

-- ends come up between edges alone
abbrev pub MayBe : Scenario → NodeCall → Type 0
MayBe scenario (Own n (steps.Raised kind peer)) = FitEnd scenario kind n peer
MayBe scenario other = ⊤

free : (scenario : Scenario) (n : NodeId) (call : steps.Call) → IsOfSession (FitEnd scenario) n call → MayBe scenario (Own n call)
free scenario n (steps.Raised kind peer) h = h
free scenario n other h = tt

holds_both : {A : Type 0} (P Q : A → Type 0) (o : Option A) → Holds P o → Holds Q o → Holds (λ x. P x × Q x) o
holds_both P Q None p q = tt
holds_both P Q (Some x) p q = (p, q)

-- ---- peers

-- the keys of entries whose values are changed
same_keys : {V W : Type 0} (f : NodeId × V → NodeId × W) → ((e : NodeId × V) → (f e).0 ≡ e.0) → (k : NodeId) (es : List (NodeId × V))
    → is_some (find node_cmp k (map f es)) ≡ is_some (find node_cmp k es)
same_keys f same k [] = refl
same_keys f same k (e ∷ es) =
    ap (λ (x : NodeId). is_some (cond (eq_by_cmp node_cmp k x) (Some (f e).1) (find node_cmp k (map f es)))) (same e)
    ∙ (elim (eq_by_cmp node_cmp k e.0) as (λ b. is_some (cond b (Some (f e).1) (find node_cmp k (map f es)))
    ≡ is_some (cond b (Some e.1) (find node_cmp k es))) [ true ↦ refl | false ↦ same_keys f same k es ])

-- a peer whose end is up
abbrev IsUp : Control → NodeId → Type 0
IsUp control peer = is_some (maps.get control.peers peer) ≡ true

run_up : (place : EdgePlace) (now : ℕ) (control : Control) (peer : NodeId) → IsUp (steps.timed place now control) peer → IsUp control peer
run_up place now control peer h =
    ap (λ (o : Option Taken). is_some o) (maps.get-entries control.peers peer)
    ∙ (sym (same_keys (steps.taken_run place now) (λ e. refl) peer (maps.entries control.peers))
    ∙ (ap (λ (o : Option Taken). is_some o) (sym
    (maps.get-from_entries node_cmp_total (map (steps.taken_run place now) (maps.entries control.peers)) peer)) ∙ h))

inserted_up : (peers : maps.FinMap node_cmp Taken) (at : NodeId) (value : Taken) (peer : NodeId)
    → is_some (maps.get (maps.insert peers at value) peer) ≡ true → (peer ≡ at) ⊎ (is_some (maps.get peers peer) ≡ true)
inserted_up peers at value peer h = elim (cases_Bool (eq_by_cmp node_cmp peer at)) [
  | inl t ↦ inl (node_cmp_exact peer at ((Equal-is (node_cmp peer at)).0 t))
  | inr f ↦ inr (sym (ap (λ (o : Option Taken). is_some o)
      (maps.get-insert node_cmp_total peers at value peer ∙ ap (λ b. cond b (Some value) (maps.get peers peer)) f)) ∙ h)
]

update_up : (now : ℕ) (from : NodeId) (message : Message) (old : Control) (peer : NodeId) → IsUp (steps.with_update now from message old) peer
    → IsUp old peer
update_up now from message old peer h = by (maps.get old.peers from) refl h
  where
    by : (o : Option Taken) → maps.get old.peers from ≡ o
        → is_some (maps.get (elim o as (λ _. Control) [
          | None ↦ old
          | Some taken ↦ record old { peers = maps.insert old.peers from (fold (steps.taken_change now) taken (changes_of message)) }
        ]).peers peer) ≡ true → IsUp old peer
    by None e k = k
    by (Some taken) e k = elim (inserted_up old.peers from (fold (steps.taken_change now) taken (changes_of message)) peer k) [
      | inl same ↦ ap (λ (p : NodeId). is_some (maps.get old.peers p)) same ∙ ap (λ (o : Option Taken). is_some o) e
      | inr was ↦ was
    ]

removed_up : (peers : maps.FinMap node_cmp Taken) (at peer : NodeId) → is_some (maps.get (maps.remove peers at) peer) ≡ true
    → is_some (maps.get peers peer) ≡ true
removed_up peers at peer h =
    by (eq_by_cmp node_cmp peer at) (sym (ap (λ (o : Option Taken). is_some o) (maps.get-remove node_cmp_total peers at peer)) ∙ h)
  where
    by : (b : Bool) → is_some (cond b None (maps.get peers peer)) ≡ true → is_some (maps.get peers peer) ≡ true
    by true k = absurd (true≢false (sym k))
    by false k = k

abbrev PeersFit : EdgePlace → Control → Type 0
PeersFit place control = (peer : NodeId) → IsUp control peer → (is_edge place.scenario peer ≡ true) × (place.me ≢ peer)

step_peers : (place : EdgePlace) (now : ℕ) (old : Control) (call : steps.Call) → MayBe place.scenario (Own place.me call) → PeersFit place old
    → PeersFit place (control_step place now old call)
step_peers place now old (steps.Update from message) w h = λ peer up. h peer (update_up now from message old peer up)
step_peers place now old (steps.Raised kinds.Bgp from) w h =
    λ peer up. elim (inserted_up old.peers from maps.empty peer up)
    [ inl same ↦ subst (λ (p : NodeId). (is_edge place.scenario p ≡ true) × (place.me ≢ p)) (sym same) w | inr was ↦ h peer was ]
step_peers place now old (steps.Raised kinds.Ldp from) w h = h
step_peers place now old (steps.Noticed kinds.Bgp from) w h = λ peer up. h peer (removed_up old.peers from peer up)
step_peers place now old (steps.Noticed kinds.Ldp from) w h = h
step_peers place now old steps.Timers w h = λ peer up. h peer (run_up place now old peer up)
step_peers place now old (steps.Label neighbour message) w h = h
step_peers place now old (steps.Customer call) w h = h
step_peers place now old steps.Rerouted w h = h

-- ---- an edge

edge_fact : (nodes : Nodes) (n : NodeId) (edge : EdgeData) (call : steps.Call) → MayBe nodes.scenario (Own n call)
    → edge.part.leaves ≡ leaves (place_of nodes n) edge.control → PeersFit (place_of nodes n) edge.control
    → Stands (place_of nodes n) nodes.clock (control_step (place_of nodes n) nodes.clock edge.control call)
    → Holds (λ (new : EdgeStepped). EdgeFact (place_of nodes n) nodes.clock new.edge) (edge_step (place_of nodes n) nodes.clock edge call)
edge_fact nodes n edge call w same fits stands =
    let place : EdgePlace = place_of nodes n in
    let control : Control = control_step place nodes.clock edge.control call in
    let IsNew : EdgeStepped → Type 0 = λ new. new.edge.control ≡ control in
    let Leafs : EdgeStepped → Type 0 = λ new. new.edge.part.leaves ≡ leaves place new.edge.control in
    let row =
    label_row place nodes.clock edge.part (one_call (own_label_call call) ++ changed_leaves (leaves place edge.control) (leaves place control)) in
    let controls : Holds IsNew (edge_step place nodes.clock edge call) =
    holds_then (λ (r : List LabelStep). ⊤) IsNew row
    (λ r. Some (record {
      edge = record { control = control; part = part_after edge.part r; raised = raised_after nodes.clock edge.raised call };
      row = r;
    })) (holds_from (λ (r : List LabelStep). ⊤) row (λ r e. tt)) (λ r t. refl) in
    let leafs : Holds Leafs (edge_step place nodes.clock edge call) =
    holds_from Leafs (edge_step place nodes.clock edge call) (λ new e. leaves_follow place nodes.clock edge call new same e) in
    by (edge_step place nodes.clock edge call) (holds_both IsNew Leafs (edge_step place nodes.clock edge call) controls leafs)
  where
    by : (o : Option EdgeStepped) → Holds (λ (new : EdgeStepped). (new.edge.control ≡ control_step (place_of nodes n) nodes.clock edge.control call)
        × (new.edge.part.leaves ≡ leaves (place_of nodes n) new.edge.control)) o
        → Holds (λ (new : EdgeStepped). EdgeFact (place_of nodes n) nodes.clock new.edge) o
    by None f = tt
    by (Some new) f = record {
      leaves = f.1;
      flows = subst (λ (c : Control). (moment : ℕ) × (moment ≤ nodes.clock) × (c.flows ≡ flows_at (place_of nodes n) moment c)) (sym f.0) stands;
      peers = subst (PeersFit (place_of nodes n)) (sym f.0) (step_peers (place_of nodes n) nodes.clock edge.control call w fits);
    }

-- ---- a core node

abbrev NoLeaves : LabelData → Type 0
NoLeaves part = (fec : Fec) → sets.contains part.leaves fec ≡ false

released_leaves : (part : LabelData) (from : NodeId) (fec : Fec) (label until : ℕ) → (with_release part from fec label until).leaves ≡ part.leaves
released_leaves part from fec label until = by (use_of part label)
  where
    by : (o : Option LabelUse) → (elim o as (λ _. LabelData)
        [ None ↦ part | Some usage ↦ with_use part label (released from fec until usage) ]).leaves ≡ part.leaves
    by None = refl
    by (Some usage) = refl

taken_leaves : (place : Place) (now : ℕ) (part : LabelData) (from : NodeId) (message : LabelMessage)
    → (taken place now part from message).leaves ≡ part.leaves
taken_leaves place now part from (messages.Mapping fec label) =
    cond_both (place.is_tree fec) (record part { branches = sets.insert part.branches (label_steps.branch_to from fec label) }) part
    (λ (p : LabelData). p.leaves ≡ part.leaves) (λ t. refl) (λ f. refl)
taken_leaves place now part from (messages.Withdraw fec label) = refl
taken_leaves place now part from (messages.Release fec label) = released_leaves part from fec label (now + place.life + 1)
taken_leaves place now part from (messages.Ignored kind) = refl

one_fact : (nodes : Nodes) (n : NodeId) (part : LabelData) (own : label_steps.Call)
    → (effect (label_place_of nodes n) nodes.clock part own).0.part.leaves ≡ part.leaves → NoLeaves part
    → Holds (λ (new : settling.Stepped). NoLeaves new.part) (label_step (label_place_of nodes n) nodes.clock part own)
one_fact nodes n part own e h =
    holds_from (λ (new : settling.Stepped). NoLeaves new.part) (label_step (label_place_of nodes n) nodes.clock part own)
    (λ new is fec. ap (λ (s : sets.FinSet fec_cmp). sets.contains s fec) (same_leaves (label_place_of nodes n) nodes.clock part own new is ∙ e)
    ∙ h fec)

-- ---- all nodes

one_node : (scenario : Scenario) (nodes : Nodes) (n : NodeId) (new : NodeState) → NodesFact scenario nodes
    → NodeFact (place_of nodes n) nodes.clock new → NodesFact scenario (with_node nodes n new)
one_node scenario nodes n new f h = record {
  same = f.same;
  node = λ m. cond_both (m.0 == n.0) new (nodes.node m) (λ (state : NodeState). NodeFact (place_of nodes m) nodes.clock state)
      (λ t. subst (λ (x : NodeId). NodeFact (place_of nodes x) nodes.clock new) (sym (node_equal m n t)) h) (λ e. f.node m);
}

core_step : (scenario : Scenario) (nodes : Nodes) (n : NodeId) (part : LabelData) (own : label_steps.Call) → NodesFact scenario nodes
    → (effect (label_place_of nodes n) nodes.clock part own).0.part.leaves ≡ part.leaves → NoLeaves part
    → Holds (λ (new : Stepped Nodes). NodesFact scenario new.state) (core_called nodes n part (Some own))
core_step scenario nodes n part own f e h =
    holds_then (λ (new : settling.Stepped). NoLeaves new.part) (λ (new : Stepped Nodes). NodesFact scenario new.state)
    (label_step (label_place_of nodes n) nodes.clock part own) _
    (one_fact nodes n part own e h) (λ new p. one_node scenario nodes n (CoreNode new.part) f p)

core_fact : (scenario : Scenario) (nodes : Nodes) (n : NodeId) (part : LabelData) (call : steps.Call) → NodesFact scenario nodes → NoLeaves part
    → Holds (λ (new : Stepped Nodes). NodesFact scenario new.state) (core_called nodes n part (own_label_call call))
core_fact scenario nodes n part (steps.Label from message) f h =
    core_step scenario nodes n part (label_steps.Taken from message) f (taken_leaves (label_place_of nodes n) nodes.clock part from message) h
core_fact scenario nodes n part (steps.Raised kinds.Ldp peer) f h = core_step scenario nodes n part (label_steps.Raised peer) f refl h
core_fact scenario nodes n part (steps.Raised kinds.Bgp peer) f h = f
core_fact scenario nodes n part (steps.Noticed kinds.Ldp peer) f h = core_step scenario nodes n part (label_steps.Noticed peer) f refl h
core_fact scenario nodes n part (steps.Noticed kinds.Bgp peer) f h = f
core_fact scenario nodes n part steps.Timers f h = core_step scenario nodes n part label_steps.Timers f refl h
core_fact scenario nodes n part steps.Rerouted f h = core_step scenario nodes n part label_steps.Rerouted f refl h
core_fact scenario nodes n part other f h = f

called_fact : (scenario : Scenario) (nodes : Nodes) (n : NodeId) (call : steps.Call) → MayBe nodes.scenario (Own n call) → NodesFact scenario nodes
    → Holds (λ (new : Stepped Nodes). NodesFact scenario new.state) (node_called nodes n (nodes.node n) call)
called_fact scenario nodes n call w f = by (nodes.node n) (f.node n)
  where
    by : (state : NodeState) → NodeFact (place_of nodes n) nodes.clock state
        → Holds (λ (new : Stepped Nodes). NodesFact scenario new.state) (node_called nodes n state call)
    by (Edge edge) h =
        holds_then (λ (new : EdgeStepped). EdgeFact (place_of nodes n) nodes.clock new.edge) (λ (new : Stepped Nodes). NodesFact scenario new.state)
        (edge_step (place_of nodes n) nodes.clock edge call) _
        (edge_fact nodes n edge call w h.leaves h.peers (step_stands (place_of nodes n) nodes.clock edge.control call h.flows))
        (λ new p. one_node scenario nodes n (Edge new.edge) f p)
    by (CoreNode part) h = core_fact scenario nodes n part call f h

-- a node that takes over the present costs: its place has another core, and all others have theirs
followed : (scenario : Scenario) (nodes : Nodes) (n : NodeId) (new : NodeState) → NodesFact scenario nodes
    → NodeFact (place_of (following nodes n) n) nodes.clock new → NodesFact scenario (with_node (following nodes n) n new)
followed scenario nodes n new f h = record { same = f.same; node = λ m. one m (cases_Bool (m.0 == n.0)) }
  where
    there : NodeId → NodeState
    there m = cond (m.0 == n.0) new (nodes.node m)

    here : NodeFact (place_of (following nodes n) n) nodes.clock (cond (n.0 == n.0) new (nodes.node n))
    here = subst (λ (b : Bool). NodeFact (place_of (following nodes n) n) nodes.clock (cond b new (nodes.node n))) (sym (node_itself n n refl)) h

    one : (m : NodeId) → ((m.0 == n.0) ≡ true) ⊎ ((m.0 == n.0) ≡ false)
        → NodeFact (place_of (following nodes n) m) nodes.clock (cond (m.0 == n.0) new (nodes.node m))
    one m (inl t) =
        subst (λ (x : NodeId). NodeFact (place_of (following nodes n) x) nodes.clock (cond (x.0 == n.0) new (nodes.node x))) (sym (node_equal m n t))
        here
    one m (inr e) =
        subst (λ (b : Bool). NodeFact (record { scenario = nodes.scenario; core = nodes.cores (cond b nodes.links (nodes.known m)); me = m })
        nodes.clock (cond b new (nodes.node m))) (sym e) (f.node m)

follow_fact : (scenario : Scenario) (nodes : Nodes) (n : NodeId) → NodesFact scenario nodes
    → Holds (λ (new : Stepped Nodes). NodesFact scenario new.state) (node_called (following nodes n) n (nodes.node n) steps.Rerouted)
follow_fact scenario nodes n f = by (nodes.node n) (f.node n)
  where
    by : (state : NodeState) → NodeFact (place_of nodes n) nodes.clock state
        → Holds (λ (new : Stepped Nodes). NodesFact scenario new.state) (node_called (following nodes n) n state steps.Rerouted)
    by (Edge edge) h =
        holds_then (λ (new : EdgeStepped). EdgeFact (place_of (following nodes n) n) nodes.clock new.edge)
        (λ (new : Stepped Nodes). NodesFact scenario new.state) (edge_step (place_of (following nodes n) n) nodes.clock edge steps.Rerouted) _
        (edge_fact (following nodes n) n edge steps.Rerouted tt h.leaves h.peers (nodes.clock, le_refl nodes.clock, refl))
        (λ new p. followed scenario nodes n (Edge new.edge) f p)
    by (CoreNode part) h =
        holds_then (λ (new : settling.Stepped). NoLeaves new.part) (λ (new : Stepped Nodes). NodesFact scenario new.state)
        (label_step (label_place_of (following nodes n) n) nodes.clock part label_steps.Rerouted) _
        (one_fact (following nodes n) n part label_steps.Rerouted refl h) (λ new p. followed scenario nodes n (CoreNode new.part) f p)

later_fact : (place : EdgePlace) (now later : ℕ) (state : NodeState) → now ≤ later → NodeFact place now state → NodeFact place later state
later_fact place now later (Edge edge) le h =
    record { leaves = h.leaves; flows = later_stands place now later edge.control le h.flows; peers = h.peers }
later_fact place now later (CoreNode part) le h = h

fresh_fact : (place : EdgePlace) (now : ℕ) (scenario : Scenario) (n : NodeId) → NodeFact place now (fresh_node scenario n)
fresh_fact place now scenario n =
    cond_both (is_edge scenario n) (Edge (edges.fresh scenario.labels)) (CoreNode (labels.fresh scenario.labels)) (NodeFact place now)
    (λ t. record {
      leaves = fresh_leaves place scenario.labels;
      flows = fresh_stands place now;
      peers =
          λ peer up. absurd (true≢false (sym (ap (λ (o : Option Taken). is_some o) (sym (maps.get-empty node_cmp peer)) ∙ up)));
    })
    (λ t fec. sets.contains-empty fec_cmp fec)

step : (scenario : Scenario) (nodes : Nodes) (call : NodeCall) → MayBe scenario call → NodesFact scenario nodes
    → Holds (λ (new : Stepped Nodes). NodesFact scenario new.state) (nodes_called call nodes)
step scenario nodes (Own n call) w f = called_fact scenario nodes n call (subst (λ (s : Scenario). MayBe s (Own n call)) (sym f.same) w) f
step scenario nodes (Elapse ticks) w f =
    record { same = f.same; node = λ n. later_fact (place_of nodes n) nodes.clock (nodes.clock + ticks) (nodes.node n) (omega arith) (f.node n) }
step scenario nodes (Price a b cost) w f = record { same = f.same; node = f.node }
step scenario nodes (Follow n) w f = follow_fact scenario nodes n f
step scenario nodes (Reset n) w f =
    one_node scenario nodes n (fresh_node nodes.scenario n) f (fresh_fact (place_of nodes n) nodes.clock nodes.scenario n)

-- ---- sessions

edges_are : (scenario : Scenario) (number : ℕ) (before : List Node) (nodes : List Node) → scenario.nodes ≡ before ++ nodes → length before ≡ number
    → AllByRecursion (λ (n : NodeId). (is_edge scenario n ≡ true) × (number ≤ n.0)) (edges_from number nodes)
edges_are scenario number before [] e size = tt
edges_are scenario number before (node ∷ more) e size =
    by (edges_are scenario (number + 1) (before ++ node ∷ []) more (e ∙ sym (append_assoc before (node ∷ []) more))
    (length-append before (node ∷ []) ∙ ap (λ (k : ℕ). k + 1) size)) node.edge refl
  where
    later : AllByRecursion (λ (n : NodeId). (is_edge scenario n ≡ true) × (number + 1 ≤ n.0)) (edges_from (number + 1) more)
        → AllByRecursion (λ (n : NodeId). (is_edge scenario n ≡ true) × (number ≤ n.0)) (edges_from (number + 1) more)
    later rest =
        each_weaker (λ (n : NodeId). (is_edge scenario n ≡ true) × (number + 1 ≤ n.0)) (λ (n : NodeId). (is_edge scenario n ≡ true) × (number ≤ n.0))
        (λ n h. (h.0, (let le = h.1 in omega (arith, le)))) (edges_from (number + 1) more) rest

    own : node.edge ≡ true → is_edge scenario (record { 0 = number }) ≡ true
    own t = ap (λ (o : Option Node). elim o [ None ↦ false | Some found ↦ found.edge ])
        (ap (λ (ns : List Node). slice_get ns number) e ∙ (ap (slice_get (before ++ node ∷ more)) (sym size) ∙ at_end before)) ∙ t
      where
        at_end : (xs : List Node) → slice_get (xs ++ node ∷ more) (length xs) ≡ Some node
        at_end [] = refl
        at_end (x ∷ xs) = at_end xs

    by : AllByRecursion (λ (n : NodeId). (is_edge scenario n ≡ true) × (number + 1 ≤ n.0)) (edges_from (number + 1) more) → (b : Bool) → node.edge ≡ b
        → AllByRecursion (λ (n : NodeId). (is_edge scenario n ≡ true) × (number ≤ n.0))
        (cond b (record { 0 = number } ∷ edges_from (number + 1) more) (edges_from (number + 1) more))
    by rest true t = ((own t, omega arith), later rest)
    by rest false f = later rest

apart_from : (scenario : Scenario) (number : ℕ) (before nodes : List Node) → scenario.nodes ≡ before ++ nodes → length before ≡ number
    → AllByRecursion (AreFit (FitEnd scenario)) (bgp_sessions (edges_from number nodes))
apart_from scenario number before [] e size = tt
apart_from scenario number before (node ∷ more) e size =
    by (apart_from scenario (number + 1) (before ++ node ∷ []) more (e ∙ sym (append_assoc before (node ∷ []) more))
    (length-append before (node ∷ []) ∙ ap (λ (k : ℕ). k + 1) size)) node.edge refl
  where
    here : NodeId
    here = record { 0 = number }

    later : AllByRecursion (λ (n : NodeId). (is_edge scenario n ≡ true) × (number + 1 ≤ n.0)) (edges_from (number + 1) more)
    later = edges_are scenario (number + 1) (before ++ node ∷ []) more (e ∙ sym (append_assoc before (node ∷ []) more))
        (length-append before (node ∷ []) ∙ ap (λ (k : ℕ). k + 1) size)

    by : AllByRecursion (AreFit (FitEnd scenario)) (bgp_sessions (edges_from (number + 1) more)) → (b : Bool) → node.edge ≡ b
        → AllByRecursion (AreFit (FitEnd scenario))
        (bgp_sessions (cond b (record { 0 = number } ∷ edges_from (number + 1) more) (edges_from (number + 1) more)))
    by rest true t =
        let all : AllByRecursion (λ (n : NodeId). (is_edge scenario n ≡ true) × (number ≤ n.0))
        (cond node.edge (record { 0 = number } ∷ edges_from (number + 1) more) (edges_from (number + 1) more)) =
        edges_are scenario number before (node ∷ more) e size in
        let own : is_edge scenario (record { 0 = number }) ≡ true =
        (subst (λ (b : Bool). AllByRecursion (λ (n : NodeId). (is_edge scenario n ≡ true) × (number ≤ n.0))
        (cond b (record { 0 = number } ∷ edges_from (number + 1) more) (edges_from (number + 1) more))) t all).0.0 in
        each_append (AreFit (FitEnd scenario)) (map (bgp_session (record { 0 = number })) (edges_from (number + 1) more))
        (bgp_sessions (edges_from (number + 1) more))
        (each_map (AreFit (FitEnd scenario)) (bgp_session (record { 0 = number })) (edges_from (number + 1) more)
        (each_weaker (λ (n : NodeId). (is_edge scenario n ≡ true) × (number + 1 ≤ n.0))
        (λ (n : NodeId). AreFit (FitEnd scenario) (bgp_session (record { 0 = number }) n))
        (λ n h. (let ne : number ≢ n.0 = λ same. (let le = h.1 in omega (arith, le, same)) in
        ((h.0, (λ same. ne (ap (λ (x : NodeId). x.0) same))), (own, (λ same. ne (sym (ap (λ (x : NodeId). x.0) same)))))))
        (edges_from (number + 1) more) later))
        rest
    by rest false f = rest

ldp_fit : (scenario : Scenario) (links : List Link) → AllByRecursion (AreFit (FitEnd scenario)) (map ldp_session links)
ldp_fit scenario [] = tt
ldp_fit scenario (link ∷ more) = ((tt, tt), ldp_fit scenario more)

sessions_fit : (scenario : Scenario) → AllByRecursion (AreFit (FitEnd scenario)) (sessions scenario)
sessions_fit scenario =
    each_append (AreFit (FitEnd scenario)) (bgp_sessions (edges_from 0 scenario.nodes)) (map ldp_session scenario.links)
    (apart_from scenario 0 [] scenario.nodes refl refl) (ldp_fit scenario scenario.links)

fit : (scenario : Scenario) (nodes : Nodes) → NodesFact scenario nodes → AllByRecursion (AreFit (FitEnd scenario)) (sessions nodes.scenario)
fit scenario nodes f = subst (λ (s : Scenario). AllByRecursion (AreFit (FitEnd scenario)) (sessions s)) (sym f.same) (sessions_fit scenario)

-- ---- runs

abbrev Facts : Scenario → Nodes → Type 0
Facts scenario = NodesFact scenario

customer_may : (scenario : Scenario) (n : NodeId) (o : Option CustomerCall) → MayFor (MayBe scenario) n o
customer_may scenario n None = tt
customer_may scenario n (Some call) = tt

event_may : (scenario : Scenario) (event : Event)
    → EventMay (Facts scenario) (FitEnd scenario) (fit scenario) (MayBe scenario) (free scenario) (step scenario) event
event_may scenario (events.Tick count) = tt
event_may scenario (events.Timers node) = tt
event_may scenario events.Settle = λ n. tt
event_may scenario (events.Restart node) = tt
event_may scenario (events.Customer event) = λ n own. customer_may scenario n (call_for own event)
event_may scenario (events.Cost a b cost) = (tt, λ n. tt)
event_may scenario other = tt

events_may : (scenario : Scenario) (all : List Timed)
    → AllByRecursion (λ (timed : Timed). EventMay (Facts scenario) (FitEnd scenario) (fit scenario) (MayBe scenario) (free scenario) (step scenario)
    timed.event) all
events_may scenario [] = tt
events_may scenario (timed ∷ more) = (event_may scenario timed.event, events_may scenario more)

pub run_facts : (scenario : Scenario) (cores : Cores) (all : List Timed) (trace : List Traced) (new : World)
    → Runs (start scenario cores) 0 all trace new
    → NodesFact scenario new.network.state × ((over : Direction) → Rests over.kind (new.network.stream over))
run_facts scenario cores all trace new run =
    let c = runs_hold (Facts scenario) (FitEnd scenario) (fit scenario) (MayBe scenario) (free scenario) (step scenario) all (events_may scenario all)
    (start scenario cores) 0 trace new
    (record {
      nodes = record { same = refl; node = λ n. fresh_fact (place_of (start_nodes scenario cores) n) 0 scenario n };
      rests =
          λ over. unfed_rests over.kind;
    }) run in
    (c.nodes, c.rests)
