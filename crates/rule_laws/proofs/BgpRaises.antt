-- Both ends of a BGP session come up, one after the other, and all is kept after both: at the level of messages.
use Rattle.std.proofs.Common.{◌≡◌, ◌≢◌, ◌==◌, ◌&&◌, Bool, true, false, cond, inl, inr, List, [], ◌∷◌, ◌++◌, map, Some, refl, sym, ap, subst, ◌∙◌}
use Rattle.std.specs.Cmp.{tied_itself}
use Rattle.std.specs.Ordering.{eq_by_cmp, is_eq}
use Rattle.std.proofs.lemmas.Bool.{or_cases, or_left, or_right, and_from, cond-true, false_from_ne_true}
use Rattle.mv_base.specs.declared.ids.NodeId.{NodeId}
use Rattle.bgp_messages.specs.declared.bgp_attributes.key.Key.{Key}
use Rattle.scenario_defs.specs.declared.event.Kind.TheVariants as kinds
use Rattle.scenario_defs.specs.declared.scenario.Scenario.{Scenario}
use Rattle.mv_base.specs.table_defs.Changes.{key_of, value_of, values_at}
use Rattle.mv_base.specs.declared.table_defs.change.Change.{Change}
use Rattle.label_defs.proofs.KeyLemmas.{node_itself, node_apart}
use Rattle.label_laws.specs.Network.{LabelNetwork}
use Rattle.label_laws.specs.Rule.{Kept, LabelRule}
use Rattle.label_laws.proofs.Full.{label_rule}
use Rattle.network_defs.specs.session_defs.Message.{SessionMessage}
use Rattle.network_defs.specs.session_defs.System.{Stepped, MessageNetwork, with_messages}
use Rattle.network_defs.specs.declared.session_defs.direction.Direction as sessions
use Rattle.edge_defs.proofs.KeyLemmas.{key_total}
use Rattle.edge_defs.specs.Edge.{Control}
use Rattle.edge_defs.specs.Keys.{Value, key_cmp}
use Rattle.edge_defs.specs.Steps as steps
use Rattle.edge_defs.specs.Steps.{control_step}
use Rattle.edge_words.specs.edge_laws.Acts as acts
use Rattle.edge_words.specs.edge_laws.Acts.{is_up, stepped, with_joined}
use Rattle.edge_words.specs.edge_laws.Network.{EdgeNetwork, thereafter}
use Rattle.edge_words.specs.edge_laws.Rule.{Rule}
use Rattle.rule_laws.proofs.Honest.{EdgeRule, act_both}
use Rattle.network_defs.specs.Acts.{is_of_session}
use Rattle.label_defs.specs.Between.{is_between}
use Rattle.network_defs.specs.Counts.{direction}
use Rattle.network_defs.specs.Nodes.{NodeState, Edge, CoreNode, Nodes, is_edge, place_of, part_of}
use Rattle.network_defs.specs.Refusals.{control_of}
use Rattle.network_defs.specs.System.{node_called}
use Rattle.network_defs.specs.World.{Datagram}
use Rattle.network_laws.specs.Sound.{Sound}
use Rattle.network_laws.proofs.NodeCalls.{IsGoodCall}
use Rattle.rule_laws.specs.Edges.{InTransit, as_message, Carries, edge_network}
use Rattle.rule_laws.specs.Labels.{Copies, label_network}
use Rattle.rule_laws.proofs.Calls.{Base, AllKept, Good, call_parts, call_good, up_by}
use Rattle.rule_laws.proofs.EdgeCalls.{EdgesNext, changes_after, carries_after, edges_after, edge_rule_after}
use Rattle.rule_laws.proofs.Raises.{joined_now, between, or_false}
use Rattle.rule_laws.proofs.Rows.{IsEdgeNode, CalledRow, control_after, UpWhereJoined}

-- nothing is in transit where the session is not joined
nothing_there : (w : EdgeNetwork) → Rule w → (a b : NodeId) → a ≢ b → (w.direction a b).joined ≡ false → (w.direction a b).transit ≡ []
nothing_there w rule a b ne off = by (w.direction a b).transit refl
  where
    by : (l : List (Change Key Value)) → (w.direction a b).transit ≡ l → l ≡ []
    by [] e = refl
    by (change ∷ more) e =
        let quiet : values_at key_cmp (key_of change) (change ∷ more) ≡ [] =
        sym (ap (values_at key_cmp (key_of change)) e) ∙ (rule.view a b (key_of change) ne).quiet off in
        let some : values_at key_cmp (key_of change) (change ∷ more) ≡ value_of change ∷ values_at key_cmp (key_of change) more =
        cond-true (eq_by_cmp key_cmp (key_of change) (key_of change)) (value_of change ∷ values_at key_cmp (key_of change) more)
        (values_at key_cmp (key_of change) more) (ap is_eq (tied_itself key_total (key_of change))) in
        let bad : value_of change ∷ values_at key_cmp (key_of change) more ≡ [] = sym some ∙ quiet in absurd cc

joined_carries : (t : Bool) (old : List SessionMessage) (changes : List (Change Key Value)) → old ≡ map as_message changes → (t ≡ true → changes ≡ [])
    → cond t [] old ≡ map as_message changes
joined_carries true old changes e h = sym (ap (map as_message) (h refl))
joined_carries false old changes e h = e

-- what a call makes of the control of an edge
edge_control : (nodes : Nodes) (n : NodeId) (call : steps.Call) → IsEdgeNode (nodes.node n)
    → control_after nodes n (nodes.node n) call ≡ control_step (place_of nodes n) nodes.clock (control_of (nodes.node n)) call
edge_control nodes n call is = by (nodes.node n) is
  where
    by : (state : NodeState) → IsEdgeNode state → control_after nodes n state call
        ≡ control_step (place_of nodes n) nodes.clock (control_of state) call
    by (Edge edge) own = refl
    by (CoreNode part) own = absurd own

module _ (scenario : Scenario) (network : MessageNetwork Nodes) (copies : Copies) (datagrams : List Datagram) (a b : NodeId)
    (good : Good scenario network copies datagrams) (ne : a ≢ b) (is_a : is_edge network.state.scenario a ≡ true)
    (is_b : is_edge network.state.scenario b ≡ true)
    (off_a : is_up (control_of (network.state.node a)) b ≡ false) (off_b : is_up (control_of (network.state.node b)) a ≡ false) where
  abbrev state : Nodes
  state = network.state

  abbrev hit : sessions.Direction → Bool
  hit = is_of_session kinds.Bgp a b

  abbrev first : MessageNetwork Nodes
  first = joined_now network hit

  abbrev changes : InTransit
  changes = good.edges.0

  abbrev w : EdgeNetwork
  w = edge_network network changes

  back : b ≢ a
  back e = ne (sym e)

  base_first : Base scenario first
  base_first = record {
    sound = good.base.sound;
    apart = λ n. or_false (network.joined (direction kinds.Ldp n n)) ∙ good.base.apart n;
    numbers = good.base.numbers;
    peers = λ u n j. elim (or_cases (network.joined (direction kinds.Bgp u n)) (is_between a b u n) j) [
      | inl was ↦ good.base.peers u n was
      | inr h ↦ between (λ x y. (is_edge state.scenario y ≡ true) × (x ≢ y)) a b u n (is_b, ne) (is_a, back) h
    ];
    kinds = good.base.kinds;
  }

  kept_first : AllKept first copies datagrams
  kept_first later =
      let v : LabelNetwork = label_network network copies (datagrams ++ later) in
      let same : v ≡ label_network first copies (datagrams ++ later) =
      λ i. record v { direction = λ u n. record (v.direction u n) { joined = sym (or_false (v.direction u n).joined) i } } in
      subst Kept same (good.kept later)

  was_apart : (u n : NodeId) → is_between a b u n ≡ true → network.joined (direction kinds.Bgp u n) ≡ false
  was_apart u n h = between (λ x y. network.joined (direction kinds.Bgp x y) ≡ false) a b u n
      (false_from_ne_true (network.joined (direction kinds.Bgp a b))
      (λ j. let x : false ≡ true = sym off_a ∙ good.edges.2.rule.ends a b ne j in absurd cc))
      (false_from_ne_true (network.joined (direction kinds.Bgp b a))
      (λ j. let x : false ≡ true = sym off_b ∙ good.edges.2.rule.ends b a back j in absurd cc)) h

  carries_first : Carries first changes
  carries_first u n = joined_carries (is_between a b u n) (network.transit (direction kinds.Bgp u n)) (changes u n) (good.edges.1 u n)
      (λ h. nothing_there w good.edges.2.rule u n (between (λ x y. x ≢ y) a b u n ne back h) (was_apart u n h))

  module _ (new : Stepped Nodes) (called : node_called state a (state.node a) (steps.Raised kinds.Bgp b) ≡ Some new)
      (is : IsGoodCall (steps.Raised kinds.Bgp b)) (sound : Sound scenario new.state) where
    abbrev middle : MessageNetwork Nodes
    middle = with_messages first new

    up_a : UpWhereJoined first a (part_of (state.node a)) (steps.Raised kinds.Bgp b)
    up_a to joined = up_by scenario first copies datagrams base_first kept_first a to joined

    parts : CalledRow state a (state.node a) (steps.Raised kinds.Bgp b) new × Base scenario middle × AllKept middle copies datagrams
    parts = call_parts scenario first copies datagrams base_first a (steps.Raised kinds.Bgp b) new called is tt sound up_a kept_first

    -- The label rule holds between the two acts as well.
    pub bgp_middle_rule : LabelRule (label_network middle copies (datagrams ++ []))
    bgp_middle_rule = label_rule (label_network middle copies (datagrams ++ [])) (parts.2 []).rule

    pub bgp_middle_alike : (u n : NodeId) → u ≢ n → middle.joined (direction kinds.Ldp u n) ≡ middle.joined (direction kinds.Ldp n u)
    bgp_middle_alike u n apart = ((parts.2 []).rule.session u n apart).alike

    abbrev after_a : Control
    after_a = control_after state a (state.node a) (steps.Raised kinds.Bgp b)

    abbrev next : InTransit
    next = changes_after first changes a after_a

    carries_middle : Carries middle next
    carries_middle = carries_after first changes a (steps.Raised kinds.Bgp b) new parts.0 carries_first base_first.peers

    middle_is : edge_network middle next ≡ stepped (with_joined a b w) a (steps.Raised kinds.Bgp b)
    middle_is =
        edges_after first changes a (steps.Raised kinds.Bgp b) new parts.0
        ∙ ap (thereafter (with_joined a b w) a) (edge_control state a (steps.Raised kinds.Bgp b) (good.base.kinds a is_a))

    both_rule : EdgeRule (stepped (edge_network middle next) b (steps.Raised kinds.Bgp a))
    both_rule =
        subst (λ (v : EdgeNetwork). EdgeRule (stepped v b (steps.Raised kinds.Bgp a))) (sym middle_is)
        (subst EdgeRule (λ i. acts.raised w a b (node_apart a b ne i) (off_a i) (off_b i)) (act_both w (acts.Raise a b) tt good.edges.2))

    still_edge : is_edge middle.state.scenario b ≡ true
    still_edge =
        (parts.1.peers a b (or_right (network.joined (direction kinds.Bgp a b)) (is_between a b a b)
        (or_left ((a.0 == a.0) && (b.0 == b.0)) ((a.0 == b.0) && (b.0 == a.0))
        (and_from (a.0 == a.0) (b.0 == b.0) (node_itself a a refl) (node_itself b b refl))))).0

    next_b : EdgesNext middle b (steps.Raised kinds.Bgp a)
    next_b = (next, carries_middle, edge_rule_after middle next b (steps.Raised kinds.Bgp a) (parts.1.kinds b still_edge) both_rule)

    up_b : UpWhereJoined middle b (part_of (middle.state.node b)) (steps.Raised kinds.Bgp a)
    up_b to joined = up_by scenario middle copies datagrams parts.1 parts.2 b to joined

    pub bgp_raised_good : (last : Stepped Nodes) → node_called middle.state b (middle.state.node b) (steps.Raised kinds.Bgp a) ≡ Some last
        → IsGoodCall (steps.Raised kinds.Bgp a) → Sound scenario last.state → Good scenario (with_messages middle last) copies datagrams
    bgp_raised_good last e good_call sound_last =
        call_good scenario middle copies datagrams parts.1 b (steps.Raised kinds.Bgp a) last e good_call tt sound_last up_b parts.2 next_b
