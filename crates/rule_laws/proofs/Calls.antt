-- Each call of a node, and each message that is taken, keeps the label rule of the network at the level of messages.
use Rattle.std.proofs.Common.{◌≡◌, ◌≢◌, ℕ, ◌==◌, ◌&&◌, Bool, true, false, cond, List, [], ◌∷◌, ◌++◌, map, is_some, option_map, Option, Some, None, refl, sym, ap, subst, ◌∙◌}
use Rattle.std.specs.Ordering.{eq_by_cmp}
use Rattle.std.specs.FinMap as maps
use Rattle.std.specs.FinMap.{FinMap}
use Rattle.mv_base.specs.declared.ids.NodeId.{NodeId}
use Rattle.mldp.specs.declared.mldp_msgs.message.LabelMessage.{LabelMessage}
use Rattle.scenario_defs.specs.declared.event.Kind.{Kind}
use Rattle.scenario_defs.specs.declared.event.Kind.TheVariants as kinds
use Rattle.scenario_defs.specs.declared.scenario.Scenario.{Scenario}
use Rattle.label_defs.specs.Keys.{node_cmp}
use Rattle.label_defs.specs.LabelData.{Place, LabelData, is_up}
use Rattle.label_defs.specs.Steps as labels
use Rattle.label_defs.specs.Steps.{hold_run, raised_end}
use Rattle.label_defs.specs.declared.end.End.{End}
use Rattle.label_defs.proofs.KeyLemmas.{node_equal, node_apart, node_cmp_total, node_cmp_exact}
use Rattle.label_defs.proofs.IdLemmas.{effect_ends}
use Rattle.label_defs.proofs.SetLemmas.{cut_other}
use Rattle.label_defs.proofs.TimerLemmas.{timed_end}
use Rattle.label_laws.specs.Network.{LabelNetwork, thereafter}
use Rattle.label_laws.specs.Acts.{Deliver, Timers, Notice, left_in_transit, delivered, noticed}
use Rattle.label_laws.specs.Rule.{Kept}
use Rattle.network_defs.specs.session_defs.Message.{SessionMessage, Bgp, Label, same_direction}
use Rattle.network_defs.specs.session_defs.System.{Stepped, MessageNetwork, with_messages}
use Rattle.network_defs.specs.declared.session_defs.direction.Direction.{Direction}
use Rattle.edge_defs.specs.Place.{label_place}
use Rattle.edge_defs.specs.Steps as steps
use Rattle.edge_defs.specs.Steps.{own_label_call}
use Rattle.network_defs.specs.Counts.{direction}
use Rattle.network_defs.specs.Nodes.{NodeState, Edge, CoreNode, Nodes, is_edge, place_of, part_of, core_at}
use Rattle.network_defs.specs.Refusals.{control_of}
use Rattle.network_defs.specs.System.{node_called, call_of}
use Rattle.network_defs.specs.World.{Datagram}
use Rattle.network_laws.specs.Sound.{SoundScenario, SoundNode, Sound}
use Rattle.network_laws.proofs.NodeCalls.{IsGoodCall}
use Rattle.rule_laws.specs.Labels.{Copies, labels_in, label_network}
use Rattle.rule_laws.proofs.Numbers.{NumbersOk, HasRoom, step_numbers}
use Rattle.rule_laws.proofs.Leaves.{leaves_are_trees}
use Rattle.rule_laws.proofs.Rows.{act_gives, FirstKept, row_kept, own_effect, CalledRow, TreesBehind, called_row, UpWhereJoined, called_is, control_after, IsEdgeNode}
use Rattle.rule_laws.proofs.EdgeCalls.{EdgesKept, PeersAreEdges, EdgesNext, edges_kept, rule_after, edge_rule_after, IsEdgeFit, fit_rule}
use Rattle.rule_laws.specs.Edges.{InTransit, as_message, edge_network}
use Rattle.bgp_messages.specs.declared.bgp_attributes.key.Key.{Key}
use Rattle.bgp_messages.specs.declared.bgp_attributes.update.Message.{Message}
use Rattle.mv_base.specs.declared.table_defs.change.Change.{Change}
use Rattle.edge_defs.specs.Keys.{Value}
use Rattle.edge_words.specs.edge_laws.Acts as edge_acts
use Rattle.edge_words.specs.edge_laws.Acts.{message_of}
use Rattle.edge_words.specs.edge_laws.Network.{EdgeNetwork}
use Rattle.rule_laws.proofs.Honest.{EdgeRule, act_both}

-- ---- what is kept

-- The nodes are sound, no node has a session with itself, and selections have small numbers.
pub record Base (scenario : Scenario) (network : MessageNetwork Nodes) : Type 0 where
  pub sound : Sound scenario network.state
  pub apart : (n : NodeId) → network.joined (direction kinds.Ldp n n) ≡ false
  pub numbers : (n : NodeId) → NumbersOk (control_of (network.state.node n))
  pub peers : PeersAreEdges network
  pub kinds : (n : NodeId) → is_edge network.state.scenario n ≡ true → IsEdgeNode (network.state.node n)

-- The label rule, and that each tree is settled, whatever datagrams come later.
abbrev pub AllKept : MessageNetwork Nodes → Copies → List Datagram → Type 0
AllKept network copies datagrams = (later : List Datagram) → Kept (label_network network copies (datagrams ++ later))

pub record Good (scenario : Scenario) (network : MessageNetwork Nodes) (copies : Copies) (datagrams : List Datagram) : Type 0 where
  pub base : Base scenario network
  pub kept : AllKept network copies datagrams
  pub edges : EdgesKept network

-- ---- a call of a node

pub trees_after : (scenario : Scenario) (nodes : Nodes) → Sound scenario nodes → (n : NodeId) (call : steps.Call) → IsGoodCall call
    → TreesBehind nodes n (nodes.node n) call
trees_after scenario nodes s n call good = by (nodes.node n) (s.node n)
  where
    by : (state : NodeState) → SoundNode state → TreesBehind nodes n state call
    by (Edge edge) own =
        leaves_are_trees (place_of nodes n) (steps.control_step (place_of nodes n) nodes.clock edge.control call)
        (good.control (place_of nodes n) nodes.clock edge.control (subst SoundScenario (sym s.same) s.lines) own.0)
    by (CoreNode part) own = tt

pub numbers_at : (b : Bool) (x y : NodeState) → NumbersOk (control_of x) → NumbersOk (control_of y) → NumbersOk (control_of (cond b x y))
numbers_at true x y p q = p
numbers_at false x y p q = q

pub kind_at : (b : Bool) (x y : NodeState) → (b ≡ true → IsEdgeNode x) → IsEdgeNode y → IsEdgeNode (cond b x y)
kind_at true x y p q = p refl
kind_at false x y p q = q

pub after_numbers : (nodes : Nodes) (n : NodeId) (state : NodeState) (call : steps.Call) → HasRoom (control_of state) call
    → NumbersOk (control_of state) → NumbersOk (control_after nodes n state call)
after_numbers nodes n (Edge edge) call room h = step_numbers (place_of nodes n) nodes.clock edge.control call room h
after_numbers nodes n (CoreNode part) call room h = h

-- what a call of a node keeps of its own, and of the network of label nodes
pub call_parts : (scenario : Scenario) (network : MessageNetwork Nodes) (copies : Copies) (datagrams : List Datagram) → Base scenario network
    → (n : NodeId) (call : steps.Call) (new : Stepped Nodes) → (e : node_called network.state n (network.state.node n) call ≡ Some new)
    → IsGoodCall call → HasRoom (control_of (network.state.node n)) call → Sound scenario new.state
    → UpWhereJoined network n (part_of (network.state.node n)) call
    → ((later : List Datagram) → FirstKept network copies (datagrams ++ later) n (own_label_call call))
    → CalledRow network.state n (network.state.node n) call new × Base scenario (with_messages network new)
    × AllKept (with_messages network new) copies datagrams
call_parts scenario network copies datagrams base n call new e good room sound up first =
    let nodes : Nodes = network.state in
    let old : LabelData = part_of (nodes.node n) in
    let c = called_row nodes n (nodes.node n) call new refl (trees_after scenario nodes base.sound n call good) e in (
      c,
      record {
        sound = sound;
        apart = base.apart;
        numbers =
            λ m. subst (λ (state : Nodes). NumbersOk (control_of (state.node m))) (sym c.state)
            (numbers_at (m.0 == n.0) c.node (nodes.node m)
            (subst NumbersOk (sym c.control) (after_numbers nodes n (nodes.node n) call room (base.numbers n))) (base.numbers m));
        peers = λ u m joined. (let p = base.peers u m joined in (subst (λ (state : Nodes). is_edge state.scenario m ≡ true) (sym c.state) p.0, p.1));
        kinds = λ m. subst (λ (state : Nodes). is_edge state.scenario m ≡ true → IsEdgeNode (state.node m)) (sym c.state) (λ t.
            kind_at (m.0 == n.0) c.node (nodes.node m) (λ here. c.kind (base.kinds n (ap (is_edge nodes.scenario) (sym (node_equal m n here)) ∙ t)))
            (base.kinds m t));
      },
      λ later.
          let all : List Datagram = datagrams ++ later in
          subst Kept (sym (called_is network copies all n call new c up))
          (row_kept network copies all n (own_label_call call) c.wants c.are (first later) c.row c.made),
    )

pub call_good : (scenario : Scenario) (network : MessageNetwork Nodes) (copies : Copies) (datagrams : List Datagram) → Base scenario network
    → (n : NodeId) (call : steps.Call) (new : Stepped Nodes) → node_called network.state n (network.state.node n) call ≡ Some new
    → IsGoodCall call → HasRoom (control_of (network.state.node n)) call → Sound scenario new.state
    → UpWhereJoined network n (part_of (network.state.node n)) call
    → ((later : List Datagram) → FirstKept network copies (datagrams ++ later) n (own_label_call call))
    → EdgesNext network n call → Good scenario (with_messages network new) copies datagrams
call_good scenario network copies datagrams base n call new e good room sound up first (changes, carries, rule) =
    let parts = call_parts scenario network copies datagrams base n call new e good room sound up first in
    record { base = parts.1; kept = parts.2; edges = edges_kept network changes n call new parts.0 carries base.peers rule }

-- ---- ends that stay up

-- the call is none by which the end towards the neighbour goes down
abbrev pub IsNoCut : NodeId → Option labels.Call → Type 0
IsNoCut to (Some (labels.Noticed peer)) = to ≢ peer
IsNoCut to other = Unit {0}

put_up : (b : Bool) (x : End) (o : Option End) → is_some o ≡ true → is_some (cond b (Some x) o) ≡ true
put_up true x o e = refl
put_up false x o e = e

was_up : (f : End → End) (o : Option End) → is_some o ≡ true → is_some (option_map f o) ≡ true
was_up f (Some end) e = refl
was_up f None e = e

pub stays_up : (place : Place) (now : ℕ) (part : LabelData) (own : Option labels.Call) (to : NodeId) → IsNoCut to own → is_up part to ≡ true
    → is_up (own_effect place now part own) to ≡ true
stays_up place now part None to cut h = h
stays_up place now part (Some (labels.Taken from message)) to cut h =
    ap (λ (ends : FinMap node_cmp End). is_some (maps.get ends to)) (effect_ends place now part from message) ∙ h
stays_up place now part (Some (labels.Want fec)) to cut h = h
stays_up place now part (Some (labels.Unwant fec)) to cut h = h
stays_up place now part (Some (labels.Raised peer)) to cut h =
    ap is_some (maps.get-insert node_cmp_total part.ends peer (raised_end now) to)
    ∙ put_up (eq_by_cmp node_cmp to peer) (raised_end now) (maps.get part.ends to) h
stays_up place now part (Some (labels.Noticed peer)) to cut h = ap is_some (cut_other node_cmp_total node_cmp_exact part.ends peer to cut) ∙ h
stays_up place now part (Some labels.Rerouted) to cut h = h
stays_up place now part (Some labels.Timers) to cut h =
    ap is_some (timed_end place now part to) ∙ was_up (hold_run place.life now) (maps.get part.ends to) h

-- no session joins a node with itself
pub joined_apart : (scenario : Scenario) (network : MessageNetwork Nodes) → Base scenario network → (u n : NodeId)
    → network.joined (direction kinds.Ldp u n) ≡ true → u ≢ n
joined_apart scenario network base u n joined same =
    let x : false ≡ true = sym (base.apart n) ∙ ap (λ (m : NodeId). network.joined (direction kinds.Ldp m n)) (sym same) ∙ joined in absurd cc

-- the ends of a joined session are up
pub up_by : (scenario : Scenario) (network : MessageNetwork Nodes) (copies : Copies) (datagrams : List Datagram) → Base scenario network
    → AllKept network copies datagrams → (n to : NodeId) → network.joined (direction kinds.Ldp n to) ≡ true
    → is_up (part_of (network.state.node n)) to ≡ true
up_by scenario network copies datagrams base kept n to joined =
    ((kept []).rule.session n to (joined_apart scenario network base n to joined)).ends joined

pub joined_up : (scenario : Scenario) (network : MessageNetwork Nodes) (copies : Copies) (datagrams : List Datagram)
    → Good scenario network copies datagrams → (n to : NodeId) → network.joined (direction kinds.Ldp n to) ≡ true
    → is_up (part_of (network.state.node n)) to ≡ true
joined_up scenario network copies datagrams good n to joined =
    ((good.kept []).rule.session n to (joined_apart scenario network good.base n to joined)).ends joined

pub up_there : (scenario : Scenario) (network : MessageNetwork Nodes) (copies : Copies) (datagrams : List Datagram)
    → Good scenario network copies datagrams → (n : NodeId) (call : steps.Call)
    → ((to : NodeId) → network.joined (direction kinds.Ldp n to) ≡ true → IsNoCut to (own_label_call call))
    → UpWhereJoined network n (part_of (network.state.node n)) call
up_there scenario network copies datagrams good n call cut to joined =
    stays_up (label_place network.state.scenario (core_at network.state n) n) network.state.clock (part_of (network.state.node n))
    (own_label_call call) to (cut to joined) (joined_up scenario network copies datagrams good n to joined)

-- ---- calls of a node by itself

-- What is asked of a call besides: the end of an LDP session comes up with the other one alone, and a loss is noticed where the session
-- is not joined and the end is up.
abbrev pub IsFitCall : MessageNetwork Nodes → NodeId → steps.Call → Type 0
IsFitCall network n (steps.Raised kinds.Ldp peer) = ⊥
IsFitCall network n (steps.Noticed kinds.Ldp peer) =
    (network.joined (direction kinds.Ldp n peer) ≡ false) × (is_up (part_of (network.state.node n)) peer ≡ true)
IsFitCall network n (steps.Label neighbour message) = ⊥
IsFitCall network n steps.Rerouted = ⊥
IsFitCall network n (steps.Customer call) = HasRoom (control_of (network.state.node n)) (steps.Customer call)
IsFitCall network n other = Unit {0}

fit_cut : (network : MessageNetwork Nodes) (n : NodeId) (call : steps.Call) → IsFitCall network n call → (to : NodeId)
    → network.joined (direction kinds.Ldp n to) ≡ true → IsNoCut to (own_label_call call)
fit_cut network n (steps.Noticed kinds.Ldp peer) fit to joined = λ same. let x : false ≡ true =
    sym fit.0 ∙ ap (λ (m : NodeId). network.joined (direction kinds.Ldp n m)) (sym same) ∙ joined in absurd cc
fit_cut network n (steps.Noticed kinds.Bgp peer) fit to joined = tt
fit_cut network n (steps.Raised kinds.Ldp peer) fit to joined = tt
fit_cut network n (steps.Raised kinds.Bgp peer) fit to joined = tt
fit_cut network n (steps.Update peer message) fit to joined = tt
fit_cut network n (steps.Label neighbour message) fit to joined = tt
fit_cut network n (steps.Customer call) fit to joined = tt
fit_cut network n steps.Timers fit to joined = tt
fit_cut network n steps.Rerouted fit to joined = tt

fit_first : (network : MessageNetwork Nodes) (copies : Copies) (datagrams : List Datagram) (n : NodeId) (call : steps.Call) → IsFitCall network n call
    → Kept (label_network network copies datagrams) → FirstKept network copies datagrams n (own_label_call call)
fit_first network copies datagrams n (steps.Noticed kinds.Ldp peer) fit k = λ first e.
    let w : LabelNetwork = label_network network copies datagrams in
    act_gives w (Notice n peer) (thereafter w n first) ((λ i. noticed w n peer (fit.0 i) (fit.1 i)) ∙ ap (option_map (thereafter w n)) e) k
fit_first network copies datagrams n steps.Timers fit k =
    λ first e. (let w : LabelNetwork = label_network network copies datagrams in
    act_gives w (Timers n) (thereafter w n first) (ap (option_map (thereafter w n)) e) k)
fit_first network copies datagrams n (steps.Noticed kinds.Bgp peer) fit k = k
fit_first network copies datagrams n (steps.Raised kinds.Ldp peer) fit k = absurd fit
fit_first network copies datagrams n (steps.Raised kinds.Bgp peer) fit k = k
fit_first network copies datagrams n (steps.Update peer message) fit k = k
fit_first network copies datagrams n (steps.Label neighbour message) fit k = absurd fit
fit_first network copies datagrams n steps.Rerouted fit k = absurd fit
fit_first network copies datagrams n (steps.Customer call) fit k = k

fit_room : (network : MessageNetwork Nodes) (n : NodeId) (call : steps.Call) → IsFitCall network n call
    → HasRoom (control_of (network.state.node n)) call
fit_room network n (steps.Customer call) fit = fit
fit_room network n (steps.Noticed kind peer) fit = tt
fit_room network n (steps.Raised kind peer) fit = tt
fit_room network n (steps.Update peer message) fit = tt
fit_room network n (steps.Label neighbour message) fit = tt
fit_room network n steps.Timers fit = tt
fit_room network n steps.Rerouted fit = tt

pub own_good : (scenario : Scenario) (network : MessageNetwork Nodes) (copies : Copies) (datagrams : List Datagram)
    → Good scenario network copies datagrams → (n : NodeId) (call : steps.Call) → IsFitCall network n call → IsEdgeFit network n call
    → IsGoodCall call
    → (new : Stepped Nodes) → node_called network.state n (network.state.node n) call ≡ Some new → Sound scenario new.state
    → Good scenario (with_messages network new) copies datagrams
own_good scenario network copies datagrams good n call fit fits is new e sound =
    call_good scenario network copies datagrams good.base n call new e is (fit_room network n call fit) sound
    (up_there scenario network copies datagrams good n call (fit_cut network n call fit))
    (λ later. fit_first network copies (datagrams ++ later) n call fit (good.kept later))
    (good.edges.0, good.edges.1, rule_after network good.edges.0 n call good.edges.2 (fit_rule network good.edges.0 n call fits good.edges.2))

-- ---- a message is taken

-- the network in which the first message over a direction is taken
abbrev pub left : MessageNetwork Nodes → Direction → List SessionMessage → MessageNetwork Nodes
left network over rest = record network { transit = λ other. cond (same_direction other over) rest (network.transit other) }

pub labels_cond : (b : Bool) (xs ys : List SessionMessage) → labels_in (cond b xs ys) ≡ cond b (labels_in xs) (labels_in ys)
labels_cond true xs ys = refl
labels_cond false xs ys = refl

left_is : (network : MessageNetwork Nodes) (copies : Copies) (datagrams : List Datagram) (a b : NodeId) (rest : List SessionMessage)
    → left_in_transit (label_network network copies datagrams) a b (labels_in rest)
    ≡ label_network (left network (direction kinds.Ldp a b) rest) copies datagrams
left_is network copies datagrams a b rest =
    let w : LabelNetwork = label_network network copies datagrams in
    λ i. record w {
      direction = λ u n. record (w.direction u n)
          { transit = sym (labels_cond ((u.0 == a.0) && (n.0 == b.0)) rest (network.transit (direction kinds.Ldp u n))) i };
    }

label_first : (scenario : Scenario) (network : MessageNetwork Nodes) (copies : Copies) (datagrams : List Datagram)
    → Good scenario network copies datagrams → (a b : NodeId) (message : LabelMessage) (rest : List SessionMessage)
    → network.joined (direction kinds.Ldp a b) ≡ true
    → network.transit (direction kinds.Ldp a b) ≡ Label message ∷ rest → (later : List Datagram)
    → FirstKept (left network (direction kinds.Ldp a b) rest) copies (datagrams ++ later) b (Some (labels.Taken a message))
label_first scenario network copies datagrams good a b message rest joined e later first is =
    let w : LabelNetwork = label_network network copies (datagrams ++ later) in
    let other : (a.0 == b.0) ≡ false = node_apart a b (joined_apart scenario network good.base a b joined) in
    let s = (good.kept later).rule.session a b (joined_apart scenario network good.base a b joined) in
    let t = (good.kept later).rule.session b a (λ same. joined_apart scenario network good.base a b joined (sym same)) in
    let up : is_up (w.node b) a ≡ true = t.ends (sym s.alike ∙ joined) in
    let gone : LabelNetwork = left_in_transit w a b (labels_in rest) in
    subst (λ (v : LabelNetwork). Kept (thereafter v b first)) (left_is network copies (datagrams ++ later) a b rest)
    (act_gives w (Deliver a b) (thereafter gone b first) ((λ i. delivered w a b (other i) (up i) (labels_in (e i))) ∙ ap (option_map (thereafter gone b)) is)
    (good.kept later))

left_base : (scenario : Scenario) (network : MessageNetwork Nodes) (over : Direction) (rest : List SessionMessage) → Base scenario network
    → Base scenario (left network over rest)
left_base scenario network over rest base =
    record { sound = base.sound; apart = base.apart; numbers = base.numbers; peers = base.peers; kinds = base.kinds }

-- a message of the session's protocol
abbrev pub IsOfKind : Kind → SessionMessage → Type 0
IsOfKind kinds.Bgp (Bgp message) = Unit {0}
IsOfKind kinds.Ldp (Label message) = Unit {0}
IsOfKind kind other = ⊥

-- a change that is taken
cond_carries : (t : Bool) (rest old : List SessionMessage) (more changes : List (Change Key Value)) → rest ≡ map as_message more
    → old ≡ map as_message changes → cond t rest old ≡ map as_message (cond t more changes)
cond_carries true rest old more changes e f = e
cond_carries false rest old more changes e f = f

update_next : (scenario : Scenario) (network : MessageNetwork Nodes) (copies : Copies) (datagrams : List Datagram)
    → Good scenario network copies datagrams → (a b : NodeId) (message : Message) (rest : List SessionMessage)
    → network.joined (direction kinds.Bgp a b) ≡ true
    → network.transit (direction kinds.Bgp a b) ≡ Bgp message ∷ rest
    → EdgesNext (left network (direction kinds.Bgp a b) rest) b (steps.Update a message)
update_next scenario network copies datagrams good a b message rest joined e = by (good.edges.0 a b) refl
  where
    changes : InTransit
    changes = good.edges.0

    gone : MessageNetwork Nodes
    gone = left network (direction kinds.Bgp a b) rest

    by : (l : List (Change Key Value)) → good.edges.0 a b ≡ l → EdgesNext (left network (direction kinds.Bgp a b) rest) b (steps.Update a message)
    by [] is = let none : Bgp message ∷ rest ≡ [] = sym e ∙ good.edges.1 a b ∙ ap (map as_message) is in absurd cc
    by (change ∷ more) is =
        let w : EdgeNetwork = edge_network network changes in
        let both : Bgp message ∷ rest ≡ as_message change ∷ map as_message more = sym e ∙ good.edges.1 a b ∙ ap (map as_message) is in
        let head : message ≡ message_of change = cc in
        let tail : rest ≡ map as_message more = cc in
        let p = good.base.peers a b joined in
        let back : network.joined (direction kinds.Bgp b a) ≡ true = sym (good.edges.2.rule.alike a b) ∙ joined in
        let up : edge_acts.is_up (w.node b) a ≡ true = good.edges.2.rule.ends b a (λ same. p.1 (sym same)) back in
        let next : InTransit = λ u n. cond ((u.0 == a.0) && (n.0 == b.0)) more (changes u n) in
        let step : EdgeRule (edge_acts.stepped (edge_acts.left_in_transit w a b more) b (steps.Update a (message_of change))) =
        subst EdgeRule (λ i. edge_acts.delivered w a b (node_apart a b p.1 i) (up i) (is i)) (act_both w (edge_acts.Deliver a b) tt good.edges.2) in (
          next,
          (λ u n. cond_carries ((u.0 == a.0) && (n.0 == b.0)) rest (network.transit (direction kinds.Bgp u n)) more (changes u n) tail
              (good.edges.1 u n)),
          edge_rule_after gone next b (steps.Update a message) (good.base.kinds b p.0)
              (subst (λ (m : Message). EdgeRule (edge_acts.stepped (edge_acts.left_in_transit w a b more) b (steps.Update a m))) (sym head) step),
        )

pub take_good : (scenario : Scenario) (network : MessageNetwork Nodes) (copies : Copies) (datagrams : List Datagram)
    → Good scenario network copies datagrams → (kind : Kind) (a b : NodeId) (message : SessionMessage) (rest : List SessionMessage)
    → IsOfKind kind message → IsGoodCall (call_of a message) → network.joined (direction kind a b) ≡ true
    → network.transit (direction kind a b) ≡ message ∷ rest → (new : Stepped Nodes)
    → node_called network.state b (network.state.node b) (call_of a message) ≡ Some new → Sound scenario new.state
    → Good scenario (with_messages (left network (direction kind a b) rest) new) copies datagrams
take_good scenario network copies datagrams good kinds.Ldp a b (Label message) rest of is joined e new made sound =
    call_good scenario (left network (direction kinds.Ldp a b) rest) copies datagrams
    (left_base scenario network (direction kinds.Ldp a b) rest good.base) b (steps.Label a message) new made is tt sound
    (up_there scenario network copies datagrams good b (steps.Label a message) (λ to j. tt))
    (label_first scenario network copies datagrams good a b message rest joined e) (
      good.edges.0,
      good.edges.1,
      rule_after network good.edges.0 b (steps.Label a message) good.edges.2
          (fit_rule network good.edges.0 b (steps.Label a message) tt good.edges.2),
    )
take_good scenario network copies datagrams good kinds.Bgp a b (Bgp message) rest of is joined e new made sound =
    call_good scenario (left network (direction kinds.Bgp a b) rest) copies datagrams
    (left_base scenario network (direction kinds.Bgp a b) rest good.base) b (steps.Update a message) new made is tt sound
    (up_there scenario network copies datagrams good b (steps.Update a message) (λ to j. tt)) (λ later. good.kept later)
    (update_next scenario network copies datagrams good a b message rest joined e)
take_good scenario network copies datagrams good kinds.Ldp a b (Bgp message) rest of is joined e new made sound = absurd of
take_good scenario network copies datagrams good kinds.Bgp a b (Label message) rest of is joined e new made sound = absurd of
