-- A step of a node as a step of a network of edges.
use Rattle.std.proofs.Common.{◌≡◌, ◌≢◌, ◌==◌, ◌&&◌, ◌||◌, Bool, true, false, cond, List, [], ◌∷◌, ◌++◌, map, is_some, refl, sym, ap, subst, ◌∙◌}
use Rattle.std.specs.FinMap as maps
use Rattle.std.proofs.lemmas.List.{append-nil}
use Rattle.mv_base.specs.declared.ids.NodeId.{NodeId}
use Rattle.bgp_messages.specs.declared.bgp_attributes.key.Key.{Key}
use Rattle.scenario_defs.specs.declared.event.Kind.TheVariants as kinds
use Rattle.mv_base.specs.declared.table_defs.change.Change.{Change}
use Rattle.label_defs.specs.Keys.{node_cmp}
use Rattle.label_defs.proofs.KeyLemmas.{node_equal}
use Rattle.network_defs.specs.session_defs.Message.{SessionMessage}
use Rattle.network_defs.specs.session_defs.System.{Stepped, MessageNetwork, messages_over, with_messages}
use Rattle.edge_defs.specs.Edge.{Control, Taken, no_control}
use Rattle.edge_defs.specs.Held.{put_to}
use Rattle.edge_defs.specs.Keys.{Value}
use Rattle.edge_defs.specs.Place.{EdgePlace}
use Rattle.edge_defs.specs.Steps as steps
use Rattle.edge_defs.specs.Steps.{control_step}
use Rattle.edge_words.specs.edge_laws.Acts as acts
use Rattle.edge_words.specs.edge_laws.Acts.{is_up, stepped}
use Rattle.edge_words.specs.edge_laws.Network.{EdgeNetwork, thereafter}
use Rattle.rule_laws.proofs.Honest.{EdgeRule, act_both}
use Rattle.rule_laws.proofs.Numbers.{HasRoom}
use Rattle.network_defs.specs.Counts.{direction}
use Rattle.network_defs.specs.Nodes.{NodeState, Edge, CoreNode, Nodes, is_edge, place_of}
use Rattle.network_defs.specs.Refusals.{control_of}
use Rattle.rule_laws.specs.Edges.{InTransit, as_message, Carries, edge_network}
use Rattle.rule_laws.proofs.EdgePuts.{over_bgp, bgp_here, bgp_elsewhere}
use Rattle.rule_laws.proofs.Rows.{IsEdgeNode, CalledRow, control_after, bgp_after, turned}

-- The changes in transit, and the rule of the network of edges.
abbrev pub EdgesKept : MessageNetwork Nodes → Type 0
EdgesKept network = (changes : InTransit) × Carries network changes × EdgeRule (edge_network network changes)

-- each BGP session is one of two edges
abbrev pub PeersAreEdges : MessageNetwork Nodes → Type 0
PeersAreEdges network = (u n : NodeId) → network.joined (direction kinds.Bgp u n) ≡ true → (is_edge network.state.scenario n ≡ true) × (u ≢ n)

-- ---- lists

map_both : (xs ys : List (Change Key Value)) → map as_message (xs ++ ys) ≡ map as_message xs ++ map as_message ys
map_both [] ys = refl
map_both (x ∷ xs) ys = ap (λ (ms : List SessionMessage). as_message x ∷ ms) (map_both xs ys)

carries_more : (here joined : Bool) (old over : List SessionMessage) (changes puts : List (Change Key Value)) → old ≡ map as_message changes
    → (here ≡ true → joined ≡ true → over ≡ map as_message puts) → (here ≡ false → over ≡ [])
    → cond joined (old ++ over) old ≡ map as_message (cond (here && joined) (changes ++ puts) changes)
carries_more true true old over changes puts e h k = (λ i. e i ++ h refl refl i) ∙ sym (map_both changes puts)
carries_more true false old over changes puts e h k = e
carries_more false true old over changes puts e h k = ap (λ (ms : List SessionMessage). old ++ ms) (k refl) ∙ append-nil old ∙ e
carries_more false false old over changes puts e h k = e

pub control_cond : (b : Bool) (x y : NodeState) (control : Control) → control_of x ≡ control → control_of (cond b x y) ≡ cond b control (control_of y)
control_cond true x y control e = e
control_cond false x y control e = refl

-- ---- a core node

no_peer : (to : NodeId) → is_some (maps.get no_control.peers to) ≡ false
no_peer to = ap is_some (maps.get-empty {X = Taken} node_cmp to)

empty_cond : (b : Bool) (xs : List (Change Key Value)) → b ≡ false → cond b xs [] ≡ []
empty_cond false xs e = refl
empty_cond true xs e = absurd cc

core_puts : (place : EdgePlace) (to : NodeId) → put_to place no_control no_control to ≡ []
core_puts place to = empty_cond (is_some (maps.get no_control.peers to)) _ (no_peer to)

nothing_more : (b : Bool) (xs ys : List (Change Key Value)) → ys ≡ [] → cond b (xs ++ ys) xs ≡ xs
nothing_more true xs ys e = ap (λ (zs : List (Change Key Value)). xs ++ zs) e ∙ append-nil xs
nothing_more false xs ys e = refl

same_control : (b : Bool) (x y : Control) → (b ≡ true → y ≡ x) → y ≡ cond b x y
same_control true x y h = h refl
same_control false x y h = refl

core_idle : (network : EdgeNetwork) (n : NodeId) → network.node n ≡ no_control → network ≡ thereafter network n no_control
core_idle network n e = λ i. record network {
  node = λ m. same_control (m.0 == n.0) no_control (network.node m) (λ t. ap network.node (node_equal m n t) ∙ e) i;
  direction = λ u m. record (network.direction u m) {
    transit =
        sym (nothing_more ((u.0 == n.0) && (network.direction u m).joined) (network.direction u m).transit
        (put_to (record { scenario = network.scenario; core = network.core n; me = n }) (network.node n) no_control m)
        (ap (λ (c : Control). put_to (record { scenario = network.scenario; core = network.core n; me = n }) c no_control m) e
        ∙ core_puts (record { scenario = network.scenario; core = network.core n; me = n }) m)) i;
  };
}

-- ---- a step

-- the changes in transit after a step of a node
abbrev pub changes_after : MessageNetwork Nodes → InTransit → NodeId → Control → InTransit
changes_after network changes n new u m =
    cond ((u.0 == n.0) && network.joined (direction kinds.Bgp u m))
    (changes u m ++ put_to (place_of network.state n) (control_of (network.state.node n)) new m) (changes u m)

puts_carry : (nodes : Nodes) (n to : NodeId) (state : NodeState) (call : steps.Call) → is_edge nodes.scenario to ≡ true
    → over_bgp n to (bgp_after nodes n state call)
    ≡ map as_message (put_to (place_of nodes n) (control_of state) (control_after nodes n state call) to)
puts_carry nodes n to (Edge edge) call e =
    bgp_here (place_of nodes n) edge.control (control_step (place_of nodes n) nodes.clock edge.control call) to e
puts_carry nodes n to (CoreNode part) call e = sym (ap (map as_message) (core_puts (place_of nodes n) to))

none_elsewhere : (nodes : Nodes) (n u to : NodeId) (state : NodeState) (call : steps.Call) → (n.0 == u.0) ≡ false
    → over_bgp u to (bgp_after nodes n state call) ≡ []
none_elsewhere nodes n u to (Edge edge) call e =
    bgp_elsewhere (place_of nodes n) edge.control (control_step (place_of nodes n) nodes.clock edge.control call) u to e
none_elsewhere nodes n u to (CoreNode part) call e = refl

module _ (network : MessageNetwork Nodes) (changes : InTransit) (n : NodeId) (call : steps.Call) (new : Stepped Nodes)
    (c : CalledRow network.state n (network.state.node n) call new) where
  abbrev nodes : Nodes
  nodes = network.state

  abbrev after : Control
  after = control_after nodes n (nodes.node n) call

  pub carries_after : Carries network changes → PeersAreEdges network → Carries (with_messages network new) (changes_after network changes n after)
  carries_after carries peers u m =
      carries_more (u.0 == n.0) (network.joined (direction kinds.Bgp u m)) (network.transit (direction kinds.Bgp u m))
      (messages_over (direction kinds.Bgp u m) new.puts) (changes u m) (put_to (place_of nodes n) (control_of (nodes.node n)) after m)
      (carries u m)
      (λ t joined.
      let same : u ≡ n = node_equal u n t in
      c.bgp u m ∙ ap (λ (x : NodeId). over_bgp x m (bgp_after nodes n (nodes.node n) call)) same
      ∙ puts_carry nodes n m (nodes.node n) call (peers u m joined).0)
      (λ f. c.bgp u m ∙ none_elsewhere nodes n u m (nodes.node n) call (turned u n f))

  pub edges_after : edge_network (with_messages network new) (changes_after network changes n after) ≡ thereafter (edge_network network changes) n after
  edges_after =
      let net : Nodes → MessageNetwork Nodes = λ state. record (with_messages network new) { state = state } in
      ap (λ (state : Nodes). edge_network (net state) (changes_after network changes n after)) c.state
      ∙ (λ i. record (edge_network network changes) {
        node = λ m. control_cond (m.0 == n.0) c.node (nodes.node m) after c.control i;
        direction = λ u m. record { joined = network.joined (direction kinds.Bgp u m); transit = changes_after network changes n after u m };
      })

  pub edges_kept : Carries network changes → PeersAreEdges network → EdgeRule (thereafter (edge_network network changes) n after)
      → EdgesKept (with_messages network new)
  edges_kept carries peers rule = (changes_after network changes n after, carries_after carries peers, subst EdgeRule (sym edges_after) rule)

-- ---- the rule after a step

-- a step of a node that is an edge, and of one that is none
pub rule_after : (network : MessageNetwork Nodes) (changes : InTransit) (n : NodeId) (call : steps.Call) → EdgeRule (edge_network network changes)
    → EdgeRule (stepped (edge_network network changes) n call)
    → EdgeRule (thereafter (edge_network network changes) n (control_after network.state n (network.state.node n) call))
rule_after network changes n call rule step = by (network.state.node n) refl
  where
    by : (state : NodeState) → network.state.node n ≡ state
        → EdgeRule (thereafter (edge_network network changes) n (control_after network.state n state call))
    by (Edge edge) at =
        subst (λ (control : Control). EdgeRule (thereafter (edge_network network changes) n
        (control_step (place_of network.state n) network.state.clock control call))) (ap control_of at) step
    by (CoreNode part) at = subst EdgeRule (core_idle (edge_network network changes) n (ap control_of at)) rule

-- the same of an edge alone
pub edge_rule_after : (network : MessageNetwork Nodes) (changes : InTransit) (n : NodeId) (call : steps.Call) → IsEdgeNode (network.state.node n)
    → EdgeRule (stepped (edge_network network changes) n call)
    → EdgeRule (thereafter (edge_network network changes) n (control_after network.state n (network.state.node n) call))
edge_rule_after network changes n call is step = by (network.state.node n) refl is
  where
    by : (state : NodeState) → network.state.node n ≡ state → IsEdgeNode state
        → EdgeRule (thereafter (edge_network network changes) n (control_after network.state n state call))
    by (Edge edge) at own =
        subst (λ (control : Control). EdgeRule (thereafter (edge_network network changes) n
        (control_step (place_of network.state n) network.state.clock control call))) (ap control_of at) step
    by (CoreNode part) at own = absurd own

-- what holds of the changes and of the network of edges at a step of a node
abbrev pub EdgesNext : MessageNetwork Nodes → NodeId → steps.Call → Type 0
EdgesNext network n call =
    (changes : InTransit) × Carries network changes
    × EdgeRule (thereafter (edge_network network changes) n (control_after network.state n (network.state.node n) call))

-- What is asked of a call for the network of edges: a pattern is not selected twice, a loss is noticed at an end that is up of a session
-- that is not joined; a message of a peer and a raise are acts of their own.
abbrev pub IsEdgeFit : MessageNetwork Nodes → NodeId → steps.Call → Type 0
IsEdgeFit network n (steps.Update peer message) = ⊥
IsEdgeFit network n (steps.Raised kinds.Bgp peer) = ⊥
IsEdgeFit network n steps.Rerouted = ⊥
IsEdgeFit network n (steps.Noticed kinds.Bgp peer) =
    (network.joined (direction kinds.Bgp n peer) ≡ false) × (network.joined (direction kinds.Bgp peer n) ≡ false)
    × (is_up (control_of (network.state.node n)) peer ≡ true)
IsEdgeFit network n (steps.Customer call) =
    (acts.selects_again (control_of (network.state.node n)) call ≡ false) × HasRoom (control_of (network.state.node n)) (steps.Customer call)
IsEdgeFit network n other = Unit {0}

pub fit_rule : (network : MessageNetwork Nodes) (changes : InTransit) (n : NodeId) (call : steps.Call) → IsEdgeFit network n call
    → EdgeRule (edge_network network changes) → EdgeRule (stepped (edge_network network changes) n call)
fit_rule network changes n (steps.Update peer message) fit rule = absurd fit
fit_rule network changes n (steps.Label neighbour message) fit rule = act_both (edge_network network changes) (acts.Label n neighbour message) tt rule
fit_rule network changes n (steps.Customer call) fit rule =
    subst (λ (b : Bool). EdgeRule (acts.called (edge_network network changes) n call b)) fit.0
    (act_both (edge_network network changes) (acts.Customer n call) fit.1 rule)
fit_rule network changes n (steps.Raised kinds.Ldp peer) fit rule = act_both (edge_network network changes) (acts.LabelRaise n peer) tt rule
fit_rule network changes n (steps.Raised kinds.Bgp peer) fit rule = absurd fit
fit_rule network changes n (steps.Noticed kinds.Ldp peer) fit rule = act_both (edge_network network changes) (acts.LabelNotice n peer) tt rule
fit_rule network changes n (steps.Noticed kinds.Bgp peer) fit rule =
    subst EdgeRule (λ i. acts.noticed (edge_network network changes) n peer (fit.0 i || fit.1 i) (fit.2 i))
    (act_both (edge_network network changes) (acts.Notice n peer) tt rule)
fit_rule network changes n steps.Rerouted fit rule = absurd fit
fit_rule network changes n steps.Timers fit rule = act_both (edge_network network changes) (acts.Timers n) tt rule
