-- The row of label steps that a step of a node makes, as steps of a network of label nodes.
use Rattle.std.proofs.Common.{◌≡◌, ℕ, ◌==◌, ◌&&◌, Bool, true, false, cond, not, inl, inr, List, [], ◌∷◌, ◌++◌, filter, flat_map, is_some, option_map, Option, Some, None, refl, sym, ap, subst, ◌∙◌}
use Rattle.std.specs.List.{AllByRecursion}
use Rattle.std.specs.FinMap as maps
use Rattle.std.specs.FinMap.{FinMap}
use Rattle.std.specs.FinSet as sets
use Rattle.std.specs.FinSet.{FinSet}
use Rattle.std.proofs.lemmas.Bool.{cases_Bool}
use Rattle.std.proofs.lemmas.List.{append-nil, append_assoc}
use Rattle.std.proofs.lemmas.Option.{same_Some}
use Rattle.mv_base.specs.Number.{◌>>?◌}
use Rattle.mv_base.specs.declared.ids.NodeId.{NodeId}
use Rattle.mldp.specs.declared.mldp_fec.fec.Fec.{Fec}
use Rattle.mldp.specs.declared.mldp_msgs.message.LabelMessage.{LabelMessage}
use Rattle.scenario_defs.specs.declared.event.Kind.TheVariants as kinds
use Rattle.scenario_defs.specs.declared.scenario.Scenario.{Scenario}
use Rattle.label_defs.specs.Keys.{fec_cmp, node_cmp}
use Rattle.label_defs.specs.declared.end.End.{End}
use Rattle.label_defs.proofs.IdLemmas.{step_ends, up_after}
use Rattle.label_defs.specs.LabelData.{Place, LabelData, is_up}
use Rattle.label_defs.specs.Settling as settling
use Rattle.label_defs.specs.Steps as labels
use Rattle.label_defs.specs.Steps.{effect, label_step}
use Rattle.label_defs.specs.declared.put.Put as put
use Rattle.label_defs.specs.Members.{in_order}
use Rattle.label_defs.proofs.KeyLemmas.{node_equal, node_itself}
use Rattle.label_defs.proofs.SettleLemmas.{bind_some}
use Rattle.label_laws.specs.Network.{LabelNetwork, messages_to, sent, thereafter}
use Rattle.label_laws.specs.Acts.{Act, Want, Unwant, stepped, wanted, act}
use Rattle.label_laws.specs.Rule.{Kept, OnNetwork}
use Rattle.label_laws.proofs.Frames.{node_here, after_again, after_silent}
use Rattle.label_laws.proofs.Runs.{run_kept}
use Rattle.network_defs.specs.session_defs.Message.{SessionMessage}
use Rattle.network_defs.specs.session_defs.System.{Put, Stepped, MessageNetwork, messages_over, with_messages}
use Rattle.edge_defs.specs.Edge.{Control, EdgeData, no_control}
use Rattle.edge_defs.specs.Place.{EdgePlace, addr_of, is_tree, label_place}
use Rattle.edge_defs.specs.Steps as steps
use Rattle.edge_defs.specs.Steps.{LabelStep, EdgeStepped, control_step, own_label_call, changed_leaves, one_call, label_row, part_after, raised_after, edge_step}
use Rattle.edge_defs.specs.Tunnels.{leaves}
use Rattle.network_defs.specs.Counts.{direction}
use Rattle.network_defs.specs.Nodes.{NodeState, Edge, CoreNode, Nodes, with_node, place_of, part_of, core_at}
use Rattle.network_defs.specs.node_defs.Puts.{bgp_puts, label_puts}
use Rattle.network_defs.specs.System.{node_called, core_called, edge_stepped}
use Rattle.network_defs.specs.Refusals.{control_of}
use Rattle.network_defs.specs.World.{Datagram}
use Rattle.network_laws.proofs.Lists.{each_map}
use Rattle.rule_laws.specs.Labels.{Copies, labels_in, label_network}
use Rattle.rule_laws.proofs.EdgePuts.{over_bgp, row_none}
use Rattle.rule_laws.proofs.Puts.{over_both, labels_both, over_ldp, over_ldp_both, bgp_puts_no_labels, row_puts, RowIsUp, row_here, row_elsewhere}

-- ---- acts of a network of label nodes

bound : (P : LabelNetwork → Type 0) (o : Option LabelNetwork) → OnNetwork P (o >>? λ next. Some next) → OnNetwork P o
bound P None h = tt
bound P (Some next) h = h

pub act_gives : (w : LabelNetwork) (one : Act) (v : LabelNetwork) → act w one ≡ Some v → Kept w → Kept v
act_gives w one v e k = subst (OnNetwork Kept) e (bound Kept (act w one) (run_kept w (one ∷ []) k))

same_cond : (b : Bool) (x y : LabelData) → (b ≡ true → x ≡ y) → y ≡ cond b x y
same_cond true x y h = sym (h refl)
same_cond false x y h = refl

-- a node that stays as it is, and puts nothing
pub after_idle : (w : LabelNetwork) (n : NodeId) → w ≡ thereafter w n (record { part = w.node n; puts = [] })
after_idle w n =
    (λ i. record w { node = λ m. same_cond (m.0 == n.0) (w.node n) (w.node m) (λ e. ap w.node (sym (node_equal m n e))) i })
    ∙ after_silent w n (w.node n)

-- ---- calls for leaves

-- a node becomes or stops being a leaf of a tree
abbrev pub IsWant : Scenario → labels.Call → Type 0
IsWant scenario (labels.Want fec) = is_tree scenario fec ≡ true
IsWant scenario (labels.Unwant fec) = Unit {0}
IsWant scenario other = ⊥

-- the parts of a row
pub record RowOf (place : EdgePlace) (now : ℕ) (part : LabelData) (call : labels.Call) (more : List labels.Call) (row : List LabelStep) : Type 0 where
  pub new : settling.Stepped
  pub made : label_step (label_place place.scenario place.core place.me) now part call ≡ Some new
  pub rest : List LabelStep
  pub others : label_row place now new.part more ≡ Some rest
  pub parts : row ≡ record { old = part; call = call; new = new } ∷ rest

pub row_of : (place : EdgePlace) (now : ℕ) (part : LabelData) (call : labels.Call) (more : List labels.Call) (row : List LabelStep)
    → label_row place now part (call ∷ more) ≡ Some row → RowOf place now part call more row
row_of place now part call more row e =
    let first =
    bind_some (label_step (label_place place.scenario place.core place.me) now part call)
    (λ new. label_row place now new.part more >>? λ thereafter. Some (record { old = part; call = call; new = new } ∷ thereafter)) row e in
    let rest =
    bind_some (label_row place now first.0.part more) (λ thereafter. Some (record { old = part; call = call; new = first.0 } ∷ thereafter)) row first.2 in
    record {
      new = first.0;
      made = first.1;
      rest = rest.0;
      others = rest.1;
      parts =
          sym (same_Some (record { old = part; call = call; new = first.0 } ∷ rest.0) row rest.2);
    }

-- ---- a row in the network

-- what a row of steps makes of a node, with all that it puts
abbrev pub sum : LabelData → List LabelStep → settling.Stepped
sum part row = record { part = part_after part row; puts = row_puts row }

module _ (network : MessageNetwork Nodes) (copies : Copies) (datagrams : List Datagram) (n : NodeId) where
  abbrev w : LabelNetwork
  w = label_network network copies datagrams

  abbrev own_place : Place
  own_place = label_place network.state.scenario (core_at network.state n) n

  step_is : (s new : settling.Stepped) (call : labels.Call) → label_step own_place network.state.clock s.part call ≡ Some new
      → stepped (thereafter w n s) n call ≡ Some (thereafter w n (record { part = new.part; puts = s.puts ++ new.puts }))
  step_is s new call e =
      let v : LabelNetwork = thereafter w n s in
      ap (λ (d : LabelData). option_map (thereafter v n) (label_step own_place network.state.clock d call)) (node_here n s.part w.node)
      ∙ ap (option_map (thereafter v n)) e
      ∙ ap (λ (x : LabelNetwork). Some x) (after_again w n s.part new.part s.puts new.puts)

  want_kept : (s new : settling.Stepped) (call : labels.Call) → IsWant network.state.scenario call
      → label_step own_place network.state.clock s.part call ≡ Some new → Kept (thereafter w n s)
      → Kept (thereafter w n (record { part = new.part; puts = s.puts ++ new.puts }))
  want_kept s new (labels.Want fec) is e k =
      let v : LabelNetwork = thereafter w n s in
      act_gives v (Want n fec) (thereafter w n (record { part = new.part; puts = s.puts ++ new.puts }))
      (ap (wanted v n fec) is ∙ step_is s new (labels.Want fec) e) k
  want_kept s new (labels.Unwant fec) is e k =
      act_gives (thereafter w n s) (Unwant n fec) (thereafter w n (record { part = new.part; puts = s.puts ++ new.puts }))
      (step_is s new (labels.Unwant fec) e) k
  want_kept s new (labels.Taken from message) is e k = absurd is
  want_kept s new (labels.Raised peer) is e k = absurd is
  want_kept s new (labels.Noticed peer) is e k = absurd is
  want_kept s new labels.Timers is e k = absurd is
  want_kept s new labels.Rerouted is e k = absurd is

  pub wants_kept : (calls : List labels.Call) → AllByRecursion (IsWant network.state.scenario) calls → (s : settling.Stepped) (row : List LabelStep)
      → label_row (place_of network.state n) network.state.clock s.part calls ≡ Some row → Kept (thereafter w n s)
      → Kept (thereafter w n (record { part = part_after s.part row; puts = s.puts ++ row_puts row }))
  wants_kept [] are s row e k =
      let P : List LabelStep → Type 0 = λ r. Kept (thereafter w n (record { part = part_after s.part r; puts = s.puts ++ row_puts r })) in
      subst P (same_Some [] row e) (subst (λ (ps : List put.Put). Kept (thereafter w n (record { part = s.part; puts = ps }))) (sym (append-nil s.puts))
      k)
  wants_kept (call ∷ more) are s row e k =
      let r = row_of (place_of network.state n) network.state.clock s.part call more row e in
      let next : settling.Stepped = record { part = r.new.part; puts = s.puts ++ r.new.puts } in
      let rest = wants_kept more are.1 next r.rest r.others (want_kept s r.new call are.0 r.made k) in
      let P : List LabelStep → Type 0 = λ x. Kept (thereafter w n (record { part = part_after s.part x; puts = s.puts ++ row_puts x })) in
      subst P (sym r.parts) (subst (λ (ps : List put.Put). Kept (thereafter w n (record { part = part_after r.new.part r.rest; puts = ps })))
      (append_assoc s.puts r.new.puts (row_puts r.rest)) rest)

  -- what the label step of the call itself gives keeps the rule
  abbrev pub FirstKept : Option labels.Call → Type 0
  FirstKept None = Kept w
  FirstKept (Some call) = (first : settling.Stepped) → label_step own_place network.state.clock (w.node n) call ≡ Some first → Kept (thereafter w n first)

  pub row_kept : (own : Option labels.Call) (wants : List labels.Call) → AllByRecursion (IsWant network.state.scenario) wants → FirstKept own
      → (row : List LabelStep) → label_row (place_of network.state n) network.state.clock (w.node n) (one_call own ++ wants) ≡ Some row
      → Kept (thereafter w n (sum (w.node n) row))
  row_kept None wants are first row e = wants_kept wants are (record { part = w.node n; puts = [] }) row e (subst Kept (after_idle w n) first)
  row_kept (Some call) wants are first row e =
      let r = row_of (place_of network.state n) network.state.clock (w.node n) call wants row e in
      let P : List LabelStep → Type 0 = λ x. Kept (thereafter w n (sum (w.node n) x)) in
      subst P (sym r.parts) (wants_kept wants are r.new r.rest r.others (first r.new r.made))

-- ---- ends that are up

-- the ends after a step are those after its effect
step_ups : (place : Place) (now : ℕ) (part : LabelData) (call : labels.Call) (new : settling.Stepped) (to : NodeId)
    → label_step place now part call ≡ Some new → is_up new.part to ≡ is_up (effect place now part call).0.part to
step_ups place now part call new to e =
    ap (λ (ends : FinMap node_cmp End). is_some (maps.get ends to)) (step_ends place now part call new e)
    ∙ up_after (effect place now part call).0.part.ends new.puts to

wants_up : (place : EdgePlace) (now : ℕ) (to : NodeId) (calls : List labels.Call) → AllByRecursion (IsWant place.scenario) calls
    → (part : LabelData) (row : List LabelStep) → label_row place now part calls ≡ Some row
    → is_up part to ≡ true → RowIsUp (label_place place.scenario place.core place.me) now to row
wants_up place now to [] are part row e up =
    subst (λ (x : List LabelStep). RowIsUp (label_place place.scenario place.core place.me) now to x) (same_Some [] row e) tt
wants_up place now to (call ∷ more) are part row e up =
    let own = label_place place.scenario place.core place.me in
    let r = row_of place now part call more row e in
    let same = same_up call are.0 in
    subst (λ (x : List LabelStep). RowIsUp own now to x) (sym r.parts)
    (same ∙ up, wants_up place now to more are.1 r.new.part r.rest r.others (step_ups own now part call r.new to r.made ∙ same ∙ up))
  where
    same_up : (one : labels.Call) → IsWant place.scenario one
        → is_up (effect (label_place place.scenario place.core place.me) now part one).0.part to ≡ is_up part to
    same_up (labels.Want fec) is = refl
    same_up (labels.Unwant fec) is = refl
    same_up (labels.Taken from message) is = absurd is
    same_up (labels.Raised peer) is = absurd is
    same_up (labels.Noticed peer) is = absurd is
    same_up labels.Timers is = absurd is
    same_up labels.Rerouted is = absurd is

-- the node after the effect of the call itself
abbrev pub own_effect : Place → ℕ → LabelData → Option labels.Call → LabelData
own_effect place now part None = part
own_effect place now part (Some call) = (effect place now part call).0.part

pub row_ups : (place : EdgePlace) (now : ℕ) (own : Option labels.Call) (wants : List labels.Call) → AllByRecursion (IsWant place.scenario) wants
    → (part : LabelData) (row : List LabelStep) → label_row place now part (one_call own ++ wants) ≡ Some row
    → (to : NodeId) → is_up (own_effect (label_place place.scenario place.core place.me) now part own) to ≡ true
    → RowIsUp (label_place place.scenario place.core place.me) now to row
row_ups place now None wants are part row e to up = wants_up place now to wants are part row e up
row_ups place now (Some call) wants are part row e to up =
    let own = label_place place.scenario place.core place.me in
    let r = row_of place now part call wants row e in
    subst (λ (x : List LabelStep). RowIsUp own now to x) (sym r.parts)
    (up, wants_up place now to wants are r.new.part r.rest r.others (step_ups own now part call r.new to r.made ∙ up))

-- ---- what a step of a node is

-- what a call makes of what a node keeps of customers and of BGP
abbrev pub control_after : Nodes → NodeId → NodeState → steps.Call → Control
control_after nodes n (Edge edge) call = control_step (place_of nodes n) nodes.clock edge.control call
control_after nodes n (CoreNode part) call = no_control

-- the node is an edge
abbrev pub IsEdgeNode : NodeState → Type 0
IsEdgeNode (Edge edge) = Unit {0}
IsEdgeNode (CoreNode part) = ⊥

-- what it puts over BGP
abbrev pub bgp_after : Nodes → NodeId → NodeState → steps.Call → List Put
bgp_after nodes n (Edge edge) call = bgp_puts (place_of nodes n) edge.control (control_step (place_of nodes n) nodes.clock edge.control call)
bgp_after nodes n (CoreNode part) call = []

-- The row of label steps of a step of a node: that of the call itself, if it has one, and those of the leaves.
pub record CalledRow (nodes : Nodes) (n : NodeId) (old : NodeState) (call : steps.Call) (new : Stepped Nodes) : Type 0 where
  pub wants : List labels.Call
  pub are : AllByRecursion (IsWant nodes.scenario) wants
  pub row : List LabelStep
  pub made : label_row (place_of nodes n) nodes.clock (part_of old) (one_call (own_label_call call) ++ wants) ≡ Some row
  pub node : NodeState
  pub state : new.state ≡ with_node nodes n node
  pub part : part_of node ≡ part_after (part_of old) row
  pub control : control_of node ≡ control_after nodes n old call
  pub kind : IsEdgeNode old → IsEdgeNode node
  pub bgp : (u to : NodeId) → over_bgp u to new.puts ≡ over_bgp u to (bgp_after nodes n old call)
  pub over : (u to : NodeId) → over_ldp u to new.puts
      ≡ over_ldp u to (flat_map (label_puts n (addr_of nodes.scenario n) (label_place nodes.scenario (core_at nodes n) n) nodes.clock) row)

-- each leaf is one of a tree
abbrev pub LeavesAreTrees : EdgePlace → Control → Type 0
LeavesAreTrees place control = (fec : Fec) → sets.contains (leaves place control) fec ≡ true → is_tree place.scenario fec ≡ true

want_is : (scenario : Scenario) (fec : Fec) (t : Bool) → (t ≡ true → is_tree scenario fec ≡ true)
    → IsWant scenario (cond t (labels.Want fec) (labels.Unwant fec))
want_is scenario fec true h = h refl
want_is scenario fec false h = tt

wants_are : (scenario : Scenario) (new : FinSet fec_cmp) → ((fec : Fec) → sets.contains new fec ≡ true → is_tree scenario fec ≡ true)
    → (fecs : List Fec) → AllByRecursion (λ fec. IsWant scenario (cond (sets.contains new fec) (labels.Want fec) (labels.Unwant fec))) fecs
wants_are scenario new h [] = tt
wants_are scenario new h (fec ∷ more) = (want_is scenario fec (sets.contains new fec) (h fec), wants_are scenario new h more)

pub changed_are : (place : EdgePlace) (old new : FinSet fec_cmp) → ((fec : Fec) → sets.contains new fec ≡ true → is_tree place.scenario fec ≡ true)
    → AllByRecursion (IsWant place.scenario) (changed_leaves old new)
changed_are place old new h =
    let some : List Fec = filter (λ fec. not (sets.contains old fec && sets.contains new fec)) (in_order (sets.union old new)) in
    each_map (IsWant place.scenario) (λ fec. cond (sets.contains new fec) (labels.Want fec) (labels.Unwant fec)) some
    (wants_are place.scenario new h some)

edge_row : (nodes : Nodes) (n : NodeId) (edge : EdgeData) (call : steps.Call) (new : Stepped Nodes)
    → LeavesAreTrees (place_of nodes n) (control_step (place_of nodes n) nodes.clock edge.control call) → edge_stepped nodes n edge call ≡ Some new
    → CalledRow nodes n (Edge edge) call new
edge_row nodes n edge call new trees e =
    let place : EdgePlace = place_of nodes n in
    let control : Control = control_step place nodes.clock edge.control call in
    let stepped : EdgeStepped → Stepped Nodes = λ made. record {
      state = with_node nodes n (Edge made.edge);
      puts = bgp_puts place edge.control made.edge.control
          ++ flat_map (label_puts n (addr_of nodes.scenario n) (label_place nodes.scenario (core_at nodes n) n) nodes.clock) made.row;
    } in
    let after_row : List LabelStep → EdgeStepped =
    λ row. record {
      edge =
          record { control = control; part = part_after edge.part row; raised = raised_after nodes.clock edge.raised call };
      row = row;
    } in
    let wants : List labels.Call = changed_leaves (leaves place edge.control) (leaves place control) in
    let calls : List labels.Call = one_call (own_label_call call) ++ wants in
    let x = bind_some (edge_step place nodes.clock edge call) (λ made. Some (stepped made)) new e in
    let y = bind_some (label_row place nodes.clock edge.part calls) (λ row. Some (after_row row)) x.0 x.1 in
    let same : stepped (after_row y.0) ≡ new = ap stepped (same_Some (after_row y.0) x.0 y.2) ∙ same_Some (stepped x.0) new x.2 in
    record {
      wants = wants;
      are = changed_are place (leaves place edge.control) (leaves place control) trees;
      row = y.0;
      made = y.1;
      node = Edge (record { control = control; part = part_after edge.part y.0; raised = raised_after nodes.clock edge.raised call });
      state = sym (ap (λ (s : Stepped Nodes). s.state) same);
      part = refl;
      control = refl;
      kind = λ k. tt;
      bgp = λ u to.
          let puts = flat_map (label_puts n (addr_of nodes.scenario n) (label_place nodes.scenario (core_at nodes n) n) nodes.clock) y.0 in
          sym (ap (λ (s : Stepped Nodes). over_bgp u to s.puts) same)
          ∙ over_both (direction kinds.Bgp u to) (bgp_puts place edge.control control) puts
          ∙ ap (λ (ms : List SessionMessage). over_bgp u to (bgp_puts place edge.control control) ++ ms)
          (row_none u to n (addr_of nodes.scenario n) (label_place nodes.scenario (core_at nodes n) n) nodes.clock y.0)
          ∙ append-nil (over_bgp u to (bgp_puts place edge.control control));
      over = λ u to.
          sym (ap (λ (s : Stepped Nodes). over_ldp u to s.puts) same)
          ∙ over_ldp_both u to (bgp_puts place edge.control control)
          (flat_map (label_puts n (addr_of nodes.scenario n) (label_place nodes.scenario (core_at nodes n) n) nodes.clock) y.0)
          ∙ ap (λ (ms : List LabelMessage). ms ++ over_ldp u to
          (flat_map (label_puts n (addr_of nodes.scenario n) (label_place nodes.scenario (core_at nodes n) n) nodes.clock) y.0))
          (bgp_puts_no_labels place edge.control control u to);
    }

itself : (b : Bool) (x y : NodeState) → (b ≡ true → y ≡ x) → y ≡ cond b x y
itself true x y h = h refl
itself false x y h = refl

core_row : (nodes : Nodes) (n : NodeId) (part : LabelData) (call : steps.Call) (new : Stepped Nodes) (own : Option labels.Call)
    → nodes.node n ≡ CoreNode part → own_label_call call ≡ own → core_called nodes n part own ≡ Some new → CalledRow nodes n (CoreNode part) call new
core_row nodes n part call new None at is e =
    let same = same_Some (record { state = nodes; puts = [] }) new e in
    record {
      wants = [];
      are = tt;
      row = [];
      made = ap (λ (o : Option labels.Call). label_row (place_of nodes n) nodes.clock part (one_call o ++ [])) is;
      node = CoreNode part;
      state = sym (ap (λ (s : Stepped Nodes). s.state) same)
          ∙ (λ i. record nodes { node = λ m. itself (m.0 == n.0) (CoreNode part) (nodes.node m) (λ t. ap nodes.node (node_equal m n t) ∙ at) i });
      part = refl;
      control = refl;
      kind = λ k. k;
      bgp = λ u to. sym (ap (λ (s : Stepped Nodes). over_bgp u to s.puts) same);
      over = λ u to. sym (ap (λ (s : Stepped Nodes). over_ldp u to s.puts) same);
    }
core_row nodes n part call new (Some own) at is e =
    let made : settling.Stepped → LabelStep = λ first. record { old = part; call = own; new = first } in
    let stepped : settling.Stepped → Stepped Nodes = λ first. record {
      state = with_node nodes n (CoreNode first.part);
      puts = label_puts n (addr_of nodes.scenario n) (label_place nodes.scenario (core_at nodes n) n) nodes.clock (made first);
    } in
    let x = bind_some (label_step (label_place nodes.scenario (core_at nodes n) n) nodes.clock part own) (λ first. Some (stepped first)) new e in
    let same = same_Some (stepped x.0) new x.2 in
    let puts = label_puts n (addr_of nodes.scenario n) (label_place nodes.scenario (core_at nodes n) n) nodes.clock (made x.0) in
    record {
      wants = [];
      are = tt;
      row = made x.0 ∷ [];
      made = ap (λ (o : Option labels.Call). label_row (place_of nodes n) nodes.clock part (one_call o ++ [])) is
          ∙ ap (λ (o : Option settling.Stepped). o >>? λ first. label_row (place_of nodes n) nodes.clock first.part [] >>? λ thereafter. Some
          (made first ∷ thereafter)) x.1;
      node = CoreNode x.0.part;
      state = sym (ap (λ (s : Stepped Nodes). s.state) same);
      part = refl;
      control = refl;
      kind = λ k. k;
      bgp = λ u to.
          sym (ap (λ (s : Stepped Nodes). over_bgp u to s.puts) same) ∙ ap (over_bgp u to) (sym (append-nil puts))
          ∙ row_none u to n (addr_of nodes.scenario n) (label_place nodes.scenario (core_at nodes n) n) nodes.clock (made x.0 ∷ []);
      over = λ u to. sym (ap (λ (s : Stepped Nodes). over_ldp u to s.puts) same) ∙ ap (over_ldp u to) (sym (append-nil puts));
    }

-- what the leaves of the node after the call are, if it is an edge
abbrev pub TreesBehind : Nodes → NodeId → NodeState → steps.Call → Type 0
TreesBehind nodes n (Edge edge) call = LeavesAreTrees (place_of nodes n) (control_step (place_of nodes n) nodes.clock edge.control call)
TreesBehind nodes n (CoreNode part) call = Unit {0}

pub called_row : (nodes : Nodes) (n : NodeId) (old : NodeState) (call : steps.Call) (new : Stepped Nodes) → nodes.node n ≡ old
    → TreesBehind nodes n old call → node_called nodes n old call ≡ Some new → CalledRow nodes n old call new
called_row nodes n (Edge edge) call new at trees e = edge_row nodes n edge call new trees e
called_row nodes n (CoreNode part) call new at trees e = core_row nodes n part call new (own_label_call call) at refl e

-- ---- the network after a step of a node

transit_is : (here joined : Bool) (old over : List SessionMessage) (to : List LabelMessage) → (here ≡ true → joined ≡ true → labels_in over ≡ to)
    → (here ≡ false → labels_in over ≡ []) → labels_in (cond joined (old ++ over) old) ≡ cond (here && joined) (labels_in old ++ to) (labels_in old)
transit_is true true old over to h k = labels_both old over ∙ ap (λ (ms : List LabelMessage). labels_in old ++ ms) (h refl refl)
transit_is true false old over to h k = refl
transit_is false true old over to h k =
    labels_both old over ∙ ap (λ (ms : List LabelMessage). labels_in old ++ ms) (k refl) ∙ append-nil (labels_in old)
transit_is false false old over to h k = refl

pub part_cond : (b : Bool) (x y : NodeState) (part : LabelData) → part_of x ≡ part → part_of (cond b x y) ≡ cond b part (part_of y)
part_cond true x y part e = e
part_cond false x y part e = refl

pub turned : (u n : NodeId) → (u.0 == n.0) ≡ false → (n.0 == u.0) ≡ false
turned u n e = elim (cases_Bool (n.0 == u.0)) [
  | inr f ↦ f
  | inl t ↦ (let x : (u.0 == n.0) ≡ true = node_itself u n (sym (node_equal n u t)) in absurd cc)
]

-- To each neighbour to which a session is joined the end is up after the effect of the call itself.
abbrev pub UpWhereJoined : MessageNetwork Nodes → NodeId → LabelData → steps.Call → Type 0
UpWhereJoined network n part call =
    (to : NodeId) → network.joined (direction kinds.Ldp n to) ≡ true
    → is_up (own_effect (label_place network.state.scenario (core_at network.state n) n) network.state.clock part (own_label_call call)) to ≡ true

pub called_is : (network : MessageNetwork Nodes) (copies : Copies) (datagrams : List Datagram) (n : NodeId) (call : steps.Call) (new : Stepped Nodes)
    (c : CalledRow network.state n (network.state.node n) call new)
    → UpWhereJoined network n (part_of (network.state.node n)) call
    → label_network (with_messages network new) copies datagrams
    ≡ thereafter (label_network network copies datagrams) n (sum (part_of (network.state.node n)) c.row)
called_is network copies datagrams n call new c up =
    let nodes : Nodes = network.state in
    let old : LabelData = part_of (nodes.node n) in
    let w : LabelNetwork = label_network network copies datagrams in
    let place : Place = label_place nodes.scenario (core_at nodes n) n in
    let ups = row_ups (place_of nodes n) nodes.clock (own_label_call call) c.wants c.are old c.row c.made in
    let net : Nodes → MessageNetwork Nodes = λ state. record (with_messages network new) { state = state } in
    let transit : (u m : NodeId) → labels_in (cond (network.joined (direction kinds.Ldp u m))
    (network.transit (direction kinds.Ldp u m) ++ messages_over (direction kinds.Ldp u m) new.puts) (network.transit (direction kinds.Ldp u m)))
    ≡ sent n (row_puts c.row) w.direction u m = λ u m.
    transit_is (u.0 == n.0) (network.joined (direction kinds.Ldp u m)) (network.transit (direction kinds.Ldp u m))
    (messages_over (direction kinds.Ldp u m) new.puts) (messages_to m (row_puts c.row))
    (λ t joined.
    let same : u ≡ n = node_equal u n t in
    c.over u m ∙ ap (λ (x : NodeId). over_ldp x m (flat_map (label_puts n (addr_of nodes.scenario n) place nodes.clock) c.row)) same
    ∙ row_here n m (addr_of nodes.scenario n) place nodes.clock c.row
    (ups m (up m (sym (ap (λ (x : NodeId). network.joined (direction kinds.Ldp x m)) same) ∙ joined))))
    (λ f. c.over u m ∙ row_elsewhere n u m (addr_of nodes.scenario n) place nodes.clock c.row (turned u n f)) in
    ap (λ (state : Nodes). label_network (net state) copies datagrams) c.state
    ∙ (λ i. record w {
      node = λ m. part_cond (m.0 == n.0) c.node (nodes.node m) (part_after old c.row) c.part i;
      direction = λ u m. record (w.direction u m) { transit = transit u m i };
    })
