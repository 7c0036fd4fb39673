-- Both ends of a session come up, one after the other, and the label rule holds after both: at the level of messages.
use Rattle.std.proofs.Common.{◌≡◌, ◌≢◌, ℕ, ◌==◌, ◌&&◌, ◌||◌, Bool, true, false, cond, inl, inr, List, [], ◌++◌, is_some, Some, refl, sym, ap, subst, ◌∙◌}
use Rattle.std.specs.FinSet as sets
use Rattle.std.proofs.lemmas.Bool.{and_parts, or_cases, or_from, false_from_ne_true}
use Rattle.std.proofs.lemmas.Option.{same_Some}
use Rattle.mv_base.specs.declared.ids.NodeId.{NodeId}
use Rattle.mldp.specs.declared.mldp_fec.fec.Fec.{Fec}
use Rattle.mldp.specs.declared.mldp_msgs.message.LabelMessage.{LabelMessage}
use Rattle.scenario_defs.specs.declared.event.Kind.TheVariants as kinds
use Rattle.scenario_defs.specs.declared.scenario.Scenario.{Scenario}
use Rattle.label_defs.specs.LabelData.{Place, LabelData, is_up}
use Rattle.label_defs.specs.Settling as settling
use Rattle.label_defs.specs.Steps as labels
use Rattle.label_defs.specs.Steps.{branch_to, raised_end}
use Rattle.label_defs.specs.declared.end.End.{End}
use Rattle.label_defs.proofs.KeyLemmas.{node_equal, node_apart, node_cmp_total, node_cmp_exact}
use Rattle.label_defs.proofs.SetLemmas.{put_here}
use Rattle.label_laws.specs.Network.{LabelNetwork, messages_to, sent, thereafter}
use Rattle.label_laws.specs.Acts as acts
use Rattle.label_laws.specs.Acts.{with_joined, raised}
use Rattle.label_laws.specs.Rule.{Kept, LabelRule}
use Rattle.label_laws.proofs.Full.{label_rule}
use Rattle.label_laws.proofs.Frames.{node_there}
use Rattle.network_defs.specs.session_defs.Message.{SessionMessage}
use Rattle.network_defs.specs.session_defs.System.{Stepped, MessageNetwork, with_messages}
use Rattle.network_defs.specs.declared.session_defs.direction.Direction as sessions
use Rattle.edge_defs.specs.Place.{label_place}
use Rattle.edge_defs.specs.Steps as steps
use Rattle.edge_defs.specs.Steps.{LabelStep, part_after}
use Rattle.network_defs.specs.Acts.{is_of_session}
use Rattle.label_defs.specs.Between.{is_between}
use Rattle.network_defs.specs.Counts.{direction}
use Rattle.network_defs.specs.Nodes as nodes
use Rattle.network_defs.specs.Nodes.{CoreNode, Nodes, is_edge, place_of, part_of, core_at}
use Rattle.network_defs.specs.System.{node_called}
use Rattle.network_defs.specs.World.{Datagram}
use Rattle.network_laws.specs.Sound.{Sound}
use Rattle.network_laws.proofs.NodeCalls.{IsGoodCall}
use Rattle.rule_laws.specs.Labels.{Copies, labels_in, label_network}
use Rattle.edge_words.specs.edge_laws.Network.{EdgeNetwork}
use Rattle.rule_laws.proofs.Honest.{EdgeRule}
use Rattle.rule_laws.specs.Edges.{edge_network}
use Rattle.rule_laws.proofs.EdgeCalls.{EdgesKept, EdgesNext, edges_kept, rule_after, fit_rule}
use Rattle.rule_laws.proofs.Rows.{IsEdgeNode}
use Rattle.rule_laws.proofs.Numbers.{NumbersOk}
use Rattle.network_defs.specs.Refusals.{control_of}
use Rattle.rule_laws.proofs.Puts.{row_puts}
use Rattle.rule_laws.proofs.Risen.{risen, quiet, nothing_more, rule_before}
use Rattle.rule_laws.proofs.Rows.{act_gives, part_cond, sum, row_of, FirstKept, wants_kept, CalledRow, called_row, called_is, UpWhereJoined}
use Rattle.rule_laws.proofs.Calls.{Base, Good, kind_at, numbers_at, after_numbers, trees_after, call_good, stays_up, joined_up}

-- ---- steps of two nodes

two_nodes : (x y : Bool) (p q d : LabelData) → (x ≡ true → y ≡ true → ⊥) → cond x p (cond y q d) ≡ cond y q (cond x p d)
two_nodes true true p q d apart = absurd (apart refl refl)
two_nodes true false p q d apart = refl
two_nodes false true p q d apart = refl
two_nodes false false p q d apart = refl

not_both : (a b m : NodeId) → a ≢ b → (m.0 == a.0) ≡ true → (m.0 == b.0) ≡ true → ⊥
not_both a b m ne x y = ne (sym (node_equal m a x) ∙ node_equal m b y)

-- a node that puts nothing steps before another one, or after it
commute : (w : LabelNetwork) (a b : NodeId) → a ≢ b → (part : LabelData) (s : settling.Stepped)
    → thereafter (thereafter w b (quiet part)) a s ≡ thereafter (thereafter w a s) b (quiet part)
commute w a b ne part s =
    let early : (u n : NodeId) → sent b [] w.direction u n ≡ (w.direction u n).transit =
    λ u n. nothing_more ((u.0 == b.0) && (w.direction u n).joined) (w.direction u n).transit in
    let late : (u n : NodeId) → sent b [] (thereafter w a s).direction u n ≡ sent a s.puts w.direction u n =
    λ u n. nothing_more ((u.0 == b.0) && (w.direction u n).joined) (sent a s.puts w.direction u n) in
    let turn : (u n : NodeId) → sent a s.puts (thereafter w b (quiet part)).direction u n ≡ sent b [] (thereafter w a s).direction u n = λ u n.
    ap (λ (ms : List LabelMessage). cond ((u.0 == a.0) && (w.direction u n).joined) (ms ++ messages_to n s.puts) ms) (early u n) ∙ sym (late u n) in
    λ i. record w {
      node = λ m. two_nodes (m.0 == a.0) (m.0 == b.0) s.part part (w.node m) (not_both a b m ne) i;
      direction = λ u n. record (w.direction u n) { transit = turn u n i };
    }

-- ---- the session is joined

-- the sessions that are hit are joined, with nothing in transit
abbrev pub joined_now : MessageNetwork Nodes → (sessions.Direction → Bool) → MessageNetwork Nodes
joined_now network hit =
    record network { joined = λ over. network.joined over || hit over; transit = λ over. cond (hit over) [] (network.transit over) }

empty_now : (hit : Bool) (old : List SessionMessage) → (hit ≡ true → labels_in old ≡ []) → labels_in old ≡ labels_in (cond hit [] old)
empty_now true old h = h refl
empty_now false old h = refl

-- what is between two nodes, either way round
pub between : (P : NodeId → NodeId → Type 0) (a b u n : NodeId) → P a b → P b a → is_between a b u n ≡ true → P u n
between P a b u n here back h = elim (or_cases ((u.0 == a.0) && (n.0 == b.0)) ((u.0 == b.0) && (n.0 == a.0)) h) [
  | inl x ↦ let y = and_parts (u.0 == a.0) (n.0 == b.0) x in
      subst (λ z. P z n) (sym (node_equal u a y.0)) (subst (λ z. P a z) (sym (node_equal n b y.1)) here)
  | inr x ↦ let y = and_parts (u.0 == b.0) (n.0 == a.0) x in
      subst (λ z. P z n) (sym (node_equal u b y.0)) (subst (λ z. P b z) (sym (node_equal n a y.1)) back)
]

pub or_false : (b : Bool) → (b || false) ≡ b
or_false true = refl
or_false false = refl

-- ---- both ends

module _ (scenario : Scenario) (network : MessageNetwork Nodes) (copies : Copies) (datagrams : List Datagram) (a b : NodeId)
    (good : Good scenario network copies datagrams) (ne : a ≢ b) (off_a : is_up (part_of (network.state.node a)) b ≡ false)
    (off_b : is_up (part_of (network.state.node b)) a ≡ false) where
  abbrev state : Nodes
  state = network.state

  abbrev hit : sessions.Direction → Bool
  hit = is_of_session kinds.Ldp a b

  abbrev first : MessageNetwork Nodes
  first = joined_now network hit

  abbrev part_a : LabelData
  part_a = part_of (state.node a)

  abbrev part_b : LabelData
  part_b = part_of (state.node b)

  abbrev own_place : NodeId → Place
  own_place n = label_place state.scenario (core_at state n) n

  back : b ≢ a
  back e = ne (sym e)

  -- no session was joined between them
  was_apart : (u n : NodeId) → is_between a b u n ≡ true → network.joined (direction kinds.Ldp u n) ≡ false
  was_apart u n h = between (λ x y. network.joined (direction kinds.Ldp x y) ≡ false) a b u n
      (false_from_ne_true (network.joined (direction kinds.Ldp a b))
      (λ j. let x : false ≡ true = sym off_a ∙ joined_up scenario network copies datagrams good a b j in absurd cc))
      (false_from_ne_true (network.joined (direction kinds.Ldp b a))
      (λ j. let x : false ≡ true = sym off_b ∙ joined_up scenario network copies datagrams good b a j in absurd cc)) h

  was_empty : (later : List Datagram) (u n : NodeId) → is_between a b u n ≡ true → labels_in (network.transit (direction kinds.Ldp u n)) ≡ []
  was_empty later u n h =
      ((good.kept later).rule.session u n (between (λ x y. x ≢ y) a b u n ne back h)).quiet (was_apart u n h)

  base_first : Base scenario first
  base_first = record {
    sound = good.base.sound;
    apart = λ n. or_from (network.joined (direction kinds.Ldp n n)) (is_between a b n n) (good.base.apart n)
        (false_from_ne_true (is_between a b n n) (λ h. between (λ x y. x ≢ y) a b n n ne back h refl));
    numbers = good.base.numbers;
    peers = λ u n j. good.base.peers u n (sym (or_false (network.joined (direction kinds.Bgp u n))) ∙ j);
    kinds = good.base.kinds;
  }

  -- an LDP session is nothing to the network of edges
  edges_first : EdgesKept first
  edges_first =
      let w : EdgeNetwork = edge_network network good.edges.0 in
      let same : w ≡ edge_network first good.edges.0 =
      λ i. record w { direction = λ u n. record (w.direction u n) { joined = sym (or_false (w.direction u n).joined) i } } in
      (good.edges.0, good.edges.1, subst EdgeRule same good.edges.2)

  next_a : EdgesNext first a (steps.Raised kinds.Ldp b)
  next_a = (
    edges_first.0,
    edges_first.1,
    rule_after first edges_first.0 a (steps.Raised kinds.Ldp b) edges_first.2
        (fit_rule first edges_first.0 a (steps.Raised kinds.Ldp b) tt edges_first.2),
  )

  -- the first end
  module _ (new : Stepped Nodes) (called : node_called state a (state.node a) (steps.Raised kinds.Ldp b) ≡ Some new)
      (is : IsGoodCall (steps.Raised kinds.Ldp b)) (sound : Sound scenario new.state) where
    row_a : CalledRow state a (state.node a) (steps.Raised kinds.Ldp b) new
    row_a = called_row state a (state.node a) (steps.Raised kinds.Ldp b) new refl
        (trees_after scenario state good.base.sound a (steps.Raised kinds.Ldp b) is) called

    up_a : UpWhereJoined first a part_a (steps.Raised kinds.Ldp b)
    up_a to joined = elim (or_cases (network.joined (direction kinds.Ldp a to)) (is_between a b a to) joined) [
      | inl j ↦ stays_up (own_place a) state.clock part_a (Some (labels.Raised b)) to tt (joined_up scenario network copies datagrams good a to j)
      | inr h ↦
          let new_end : End = raised_end state.clock in
          let there : is_up (risen part_a b state.clock) b ≡ true = ap is_some (put_here node_cmp_total node_cmp_exact part_a.ends b new_end) in
          let same : to ≡ b = other_end to h in
          subst (λ (m : NodeId). is_up (risen part_a b state.clock) m ≡ true) (sym same) there
    ]
      where
        other_end : (m : NodeId) → is_between a b a m ≡ true → m ≡ b
        other_end m h = elim (or_cases ((a.0 == a.0) && (m.0 == b.0)) ((a.0 == b.0) && (m.0 == a.0)) h) [
          | inl x ↦ node_equal m b (and_parts (a.0 == a.0) (m.0 == b.0) x).1
          | inr x ↦ absurd (ne (node_equal a b (and_parts (a.0 == b.0) (m.0 == a.0) x).0))
        ]

    abbrev middle : MessageNetwork Nodes
    middle = with_messages first new

    base_middle : Base scenario middle
    base_middle = record {
      sound = sound;
      apart = base_first.apart;
      numbers = λ m. subst (λ (s : Nodes). NumbersOk (control_of (s.node m))) (sym row_a.state) (numbers_at (m.0 == a.0) row_a.node (state.node m)
          (subst NumbersOk (sym row_a.control) (after_numbers state a (state.node a) (steps.Raised kinds.Ldp b) tt (good.base.numbers a)))
          (good.base.numbers m));
      peers = λ u m j. (let p = base_first.peers u m j in (subst (λ (s : Nodes). is_edge s.scenario m ≡ true) (sym row_a.state) p.0, p.1));
      kinds = λ m. subst (λ (s : Nodes). is_edge s.scenario m ≡ true → IsEdgeNode (s.node m)) (sym row_a.state) (λ t.
          kind_at (m.0 == a.0) row_a.node (state.node m)
          (λ here. row_a.kind (good.base.kinds a (ap (is_edge state.scenario) (sym (node_equal m a here)) ∙ t))) (good.base.kinds m t));
    }

    edges_middle : EdgesKept middle
    edges_middle = edges_kept first next_a.0 a (steps.Raised kinds.Ldp b) new row_a next_a.1 base_first.peers next_a.2

    next_b : EdgesNext middle b (steps.Raised kinds.Ldp a)
    next_b = (
      edges_middle.0,
      edges_middle.1,
      rule_after middle edges_middle.0 b (steps.Raised kinds.Ldp a) edges_middle.2
          (fit_rule middle edges_middle.0 b (steps.Raised kinds.Ldp a) tt edges_middle.2),
    )

    middle_is : (all : List Datagram) → label_network middle copies all ≡ thereafter (label_network first copies all) a (sum part_a row_a.row)
    middle_is all = called_is first copies all a (steps.Raised kinds.Ldp b) new row_a up_a

    -- what the first end was called with, and the calls for its leaves
    abbrev risen_a : LabelData
    risen_a = risen part_a b state.clock

    abbrev risen_b : LabelData
    risen_b = risen part_b a state.clock

    -- the label network in which both ends are up and the session is joined, before the calls for leaves
    both_kept : (later : List Datagram) → Kept (thereafter (thereafter (label_network first copies (datagrams ++ later)) b (quiet risen_b)) a (quiet risen_a))
    both_kept later =
        subst Kept same (act_gives w (acts.Raise a b) (with_joined a b (thereafter (thereafter w a (quiet risen_a)) b (quiet risen_b))) made
        (good.kept later))
      where
        w : LabelNetwork
        w = label_network network copies (datagrams ++ later)

        v : LabelNetwork
        v = label_network first copies (datagrams ++ later)

        made : acts.act (label_network network copies (datagrams ++ later)) (acts.Raise a b)
            ≡ Some (with_joined a b (thereafter (thereafter (label_network network copies (datagrams ++ later)) a (quiet risen_a)) b (quiet risen_b)))
        made =
            (λ i. raised (label_network network copies (datagrams ++ later)) a b (node_apart a b ne i) (off_a i) (off_b i))
            ∙ ap (λ (d : LabelData). Some (with_joined a b
            (thereafter (thereafter (label_network network copies (datagrams ++ later)) a (quiet risen_a)) b (quiet (risen d a state.clock)))))
            (node_there a risen_a (label_network network copies (datagrams ++ later)).node b back)

        nothing : (all : LabelNetwork) (one two : NodeId) (p q : LabelData) (u n : NodeId)
            → sent two [] (thereafter all one (quiet p)).direction u n ≡ (all.direction u n).transit
        nothing all one two p q u n =
            nothing_more ((u.0 == two.0) && (all.direction u n).joined) (sent one [] all.direction u n)
            ∙ nothing_more ((u.0 == one.0) && (all.direction u n).joined) (all.direction u n).transit

        same : with_joined a b (thereafter (thereafter (label_network network copies (datagrams ++ later)) a (quiet risen_a)) b (quiet risen_b))
            ≡ thereafter (thereafter (label_network first copies (datagrams ++ later)) b (quiet risen_b)) a (quiet risen_a)
        same = λ i. record (label_network first copies (datagrams ++ later)) {
          node = λ m. two_nodes (m.0 == b.0) (m.0 == a.0) risen_b risen_a (part_of (state.node m)) (not_both b a m back) i;
          direction = λ u n. record ((label_network first copies (datagrams ++ later)).direction u n) {
            transit =
                (nothing (label_network network copies (datagrams ++ later)) a b risen_a risen_b u n
                ∙ empty_now (is_between a b u n) (network.transit (direction kinds.Ldp u n)) (was_empty later u n)
                ∙ sym (nothing (label_network first copies (datagrams ++ later)) b a risen_b risen_a u n)) i;
          };
        }

    -- the other end is up too, and then the calls for the leaves of the first node are made
    abbrev other_up : MessageNetwork Nodes
    other_up = record first { state = nodes.with_node state b (CoreNode risen_b) }

    other_is : (all : List Datagram) → thereafter (label_network first copies all) b (quiet risen_b) ≡ label_network other_up copies all
    other_is all =
        let v : LabelNetwork = label_network first copies all in
        λ i. record v {
          node = λ m. sym (part_cond (m.0 == b.0) (CoreNode risen_b) (state.node m) risen_b refl) i;
          direction =
              λ u n. record (v.direction u n) { transit = nothing_more ((u.0 == b.0) && (v.direction u n).joined) (v.direction u n).transit i };
        }

    half_kept : (later : List Datagram) → Kept (thereafter (thereafter (label_network first copies (datagrams ++ later)) a (sum part_a row_a.row)) b
        (quiet risen_b))
    half_kept later =
        let all : List Datagram = datagrams ++ later in
        let r = row_of (place_of state a) state.clock part_a (labels.Raised b) row_a.wants row_a.row row_a.made in
        let own : r.new ≡ quiet risen_a = sym (same_Some (quiet risen_a) r.new r.made) in
        let start : Kept (thereafter (label_network other_up copies all) a r.new) =
        subst (λ (s : settling.Stepped). Kept (thereafter (label_network other_up copies all) a s)) (sym own)
        (subst (λ (v : LabelNetwork). Kept (thereafter v a (quiet risen_a))) (other_is all) (both_kept later)) in
        let row : Kept (thereafter (label_network other_up copies all) a
        (record { part = part_after r.new.part r.rest; puts = r.new.puts ++ row_puts r.rest })) =
        wants_kept other_up copies all a row_a.wants row_a.are r.new r.rest r.others start in
        let whole : Kept (thereafter (label_network other_up copies all) a (sum part_a row_a.row)) =
        subst (λ (x : List LabelStep). Kept (thereafter (label_network other_up copies all) a (sum part_a x))) (sym r.parts) row in
        subst Kept (commute (label_network first copies all) a b ne risen_b (sum part_a row_a.row))
        (subst (λ (v : LabelNetwork). Kept (thereafter v a (sum part_a row_a.row))) (sym (other_is all)) whole)

    -- The label rule holds between the two acts as well.
    pub middle_rule : LabelRule (label_network middle copies (datagrams ++ []))
    middle_rule =
        let w : LabelNetwork = thereafter (label_network first copies (datagrams ++ [])) a (sum part_a row_a.row) in
        let b_is : w.node b ≡ part_b = node_there a (sum part_a row_a.row).part (label_network first copies (datagrams ++ [])).node b back in
        let no_branch : (fec : Fec) (label : ℕ) → sets.contains part_b.branches (branch_to a fec label) ≡ true → ⊥ =
        λ fec label has. (let up : is_up part_b a ≡ true = ((good.kept []).rule.view b a label back).branch fec has in let x : true ≡ false =
        sym up ∙ off_b in absurd cc) in
        subst LabelRule (sym (middle_is (datagrams ++ [])))
        (rule_before w b a part_b state.clock b_is off_b no_branch (label_rule (thereafter w b (quiet risen_b)) (half_kept []).rule))

    pub middle_alike : (u n : NodeId) → u ≢ n → middle.joined (direction kinds.Ldp u n) ≡ middle.joined (direction kinds.Ldp n u)
    middle_alike u n apart = ((half_kept []).rule.session u n apart).alike

    -- the second end
    risen_same : risen (part_of (middle.state.node b)) a middle.state.clock ≡ risen_b
    risen_same =
        ap (λ (s : Nodes). risen (part_of (s.node b)) a s.clock) row_a.state
        ∙ ap (λ (t : Bool). risen (part_of (cond t row_a.node (state.node b))) a state.clock) (node_apart b a back)

    up_b : UpWhereJoined middle b (part_of (middle.state.node b)) (steps.Raised kinds.Ldp a)
    up_b to joined =
        ap (λ (d : LabelData). is_up d to) risen_same ∙ (elim (or_cases (network.joined (direction kinds.Ldp b to)) (is_between a b b to) joined) [
          | inl j ↦ stays_up (own_place b) state.clock part_b (Some (labels.Raised a)) to tt (joined_up scenario network copies datagrams good b to j)
          | inr h ↦
              let new_end : End = raised_end state.clock in
              let there : is_up (risen part_b a state.clock) a ≡ true = ap is_some (put_here node_cmp_total node_cmp_exact part_b.ends a new_end) in
              let same : to ≡ a = other_end to h in
              subst (λ (m : NodeId). is_up (risen part_b a state.clock) m ≡ true) (sym same) there
        ])
      where
        other_end : (m : NodeId) → is_between a b b m ≡ true → m ≡ a
        other_end m h = elim (or_cases ((b.0 == a.0) && (m.0 == b.0)) ((b.0 == b.0) && (m.0 == a.0)) h) [
          | inl x ↦ absurd (back (node_equal b a (and_parts (b.0 == a.0) (m.0 == b.0) x).0))
          | inr x ↦ node_equal m a (and_parts (b.0 == b.0) (m.0 == a.0) x).1
        ]

    first_b : (later : List Datagram) → FirstKept middle copies (datagrams ++ later) b (Some (labels.Raised a))
    first_b later second e =
        let all : List Datagram = datagrams ++ later in
        let own : second ≡ quiet risen_b =
        sym (same_Some (quiet (risen (part_of (middle.state.node b)) a middle.state.clock)) second e) ∙ ap quiet risen_same in
        subst (λ (s : settling.Stepped). Kept (thereafter (label_network middle copies all) b s)) (sym own)
        (subst (λ (v : LabelNetwork). Kept (thereafter v b (quiet risen_b))) (sym (middle_is all)) (half_kept later))

    pub raised_good : (last : Stepped Nodes) → node_called middle.state b (middle.state.node b) (steps.Raised kinds.Ldp a) ≡ Some last
        → IsGoodCall (steps.Raised kinds.Ldp a) → Sound scenario last.state → Good scenario (with_messages middle last) copies datagrams
    raised_good last e good_call sound_last =
        call_good scenario middle copies datagrams base_middle b (steps.Raised kinds.Ldp a) last e good_call tt sound_last up_b first_b next_b
