-- The branches of a node to a neighbour are labels that the messages from there map, and do not withdraw.
use Rattle.std.proofs.Common.{◌≡◌, ◌≢◌, ◌+◌, inl, inr, ◌==◌, ◌&&◌, not, ℕ, Bool, true, false, cond, flat_map, List, [], ◌∷◌, ◌++◌, Option, Some, None, refl, sym, ap, subst, ◌∙◌, arith}
use Rattle.std.specs.FinSet as sets
use Rattle.std.specs.List.{AllByRecursion, filter}
use Rattle.std.specs.Ordering.{eq_by_cmp}
use Rattle.std.proofs.lemmas.Bool.{and_parts, or_cases}
use Rattle.std.proofs.lemmas.List.{append_assoc}
use Rattle.std.proofs.lemmas.List.Elements.{Contains-push_cases}
use Rattle.std.proofs.lemmas.Option.{same_Some}
use Rattle.std.specs.Cmp.{Equal-is}
use Rattle.mv_base.specs.declared.ids.NodeId.{NodeId}
use Rattle.mldp.specs.declared.mldp_fec.fec.Fec.{Fec}
use Rattle.mldp.specs.mldp_msgs.Labels.{IsMapped}
use Rattle.mldp.specs.declared.mldp_msgs.message.LabelMessage.{LabelMessage}
use Rattle.mldp.specs.declared.mldp_msgs.message.LabelMessage.TheVariants as messages
use Rattle.scenario_defs.specs.declared.event.Kind.TheVariants as kinds
use Rattle.label_defs.specs.Keys.{branch_cmp, fec_cmp}
use Rattle.label_defs.specs.LabelData.{Place, LabelData, use_of}
use Rattle.label_defs.specs.Settling as settling
use Rattle.label_defs.specs.Settling.{with_use}
use Rattle.label_defs.specs.Steps as labels
use Rattle.label_defs.specs.Steps.{branch_to, released, effect, label_step}
use Rattle.label_defs.specs.declared.branch.Branch.{Branch}
use Rattle.label_defs.specs.declared.label_use.LabelUse.{LabelUse}
use Rattle.label_defs.specs.Members.{in_order}
use Rattle.label_defs.proofs.KeyLemmas.{branch_cmp_total, branch_cmp_exact, node_itself}
use Rattle.label_defs.proofs.SetLemmas.{inserted_other, removed_here, retained}
use Rattle.label_defs.proofs.SettleLemmas.{bind_some}
use Rattle.label_defs.proofs.WithdrawLemmas.{same_branches}
use Rattle.network_defs.specs.session_defs.Message.{SessionMessage, Bgp, Label}
use Rattle.network_defs.specs.session_defs.System.{Stepped}
use Rattle.edge_defs.specs.Place.{EdgePlace, addr_of, label_place}
use Rattle.edge_defs.specs.Steps as steps
use Rattle.edge_defs.specs.Steps.{EdgeStepped, LabelStep, own_label_call, one_call, changed_leaves, label_row, part_after, raised_after, control_step, edge_step}
use Rattle.edge_defs.specs.Tunnels.{leaves}
use Rattle.network_defs.specs.Nodes.{NodeState, Edge, CoreNode, Nodes, with_node, place_of, part_of, label_place_of}
use Rattle.network_defs.specs.node_defs.Puts.{bgp_puts, label_puts}
use Rattle.network_defs.specs.System.{node_called, core_called, call_of, unchanged}
use Rattle.network_laws.proofs.Lists.{each_map, each_of}
use Rattle.rule_laws.specs.Labels.{labels_in}
use Rattle.rule_laws.proofs.Rows.{row_of}
use Rattle.rule_laws.proofs.Sessions.{fresh_part}
use Rattle.rule_laws.proofs.Puts.{labels_both}
use Rattle.license_laws.proofs.Hears.{IsOther, IsOfKind, Follower}

branch_equal : (a b : Branch) → eq_by_cmp branch_cmp a b ≡ true → a ≡ b
branch_equal a b e = branch_cmp_exact a b ((Equal-is (branch_cmp a b)).0 e)

-- ---- messages

-- what is mapped stays so after a message that does not withdraw it
pub mapped_more : (ms : List LabelMessage) (m : LabelMessage) (fec : Fec) (label : ℕ) → m ≢ messages.Withdraw fec label → IsMapped ms fec label
    → IsMapped (ms ++ m ∷ []) fec label
mapped_more ms m fec label ne is = record {
  before = is.before;
  after = is.after ++ m ∷ [];
  parts = ap (λ (xs : List LabelMessage). xs ++ m ∷ []) is.parts ∙ append_assoc is.before (messages.Mapping fec label ∷ is.after) (m ∷ []);
  kept = λ c. elim (Contains-push_cases is.after m (messages.Withdraw fec label) c) [ inl d ↦ is.kept d | inr e ↦ ne e ];
}

pub mapped_now : (ms : List LabelMessage) (fec : Fec) (label : ℕ) → IsMapped (ms ++ messages.Mapping fec label ∷ []) fec label
mapped_now ms fec label = record { before = ms; after = []; parts = refl; kept = λ c. (let lt = c.1 in absurd (omega (arith, lt))) }

-- ---- label steps

abbrev pub has : LabelData → NodeId → Fec → ℕ → Bool
has part from fec label = sets.contains part.branches (branch_to from fec label)

-- the call takes no message from the neighbour
abbrev NotFrom : NodeId → labels.Call → Type 0
NotFrom from (labels.Taken n message) = n ≢ from
NotFrom from other = Unit {0}

abbrev branches_in : LabelData → sets.FinSet branch_cmp
branches_in part = part.branches

released_branches : (part : LabelData) (label : ℕ) (change : LabelUse → LabelUse) (o : Option LabelUse)
    → branches_in (elim o [ None ↦ part | Some usage ↦ with_use part label (change usage) ]) ≡ part.branches
released_branches part label change None = refl
released_branches part label change (Some usage) = refl

-- branches to the neighbour come of its messages alone
effect_fewer : (place : Place) (now : ℕ) (part : LabelData) (call : labels.Call) (from : NodeId) (fec : Fec) (label : ℕ) → NotFrom from call
    → has (effect place now part call).0.part from fec label ≡ true → has part from fec label ≡ true
effect_fewer place now part (labels.Taken n (messages.Mapping f l)) from fec label ne h = by (place.is_tree f) h
  where
    by : (t : Bool) → has (cond t (record part { branches = sets.insert part.branches (branch_to n f l) }) part) from fec label ≡ true
        → has part from fec label ≡ true
    by true h =
        sym (inserted_other branch_cmp_total branch_cmp_exact part.branches (branch_to n f l) (branch_to from fec label)
        (λ e. ne (sym (ap (λ (b : Branch). b.node) e)))) ∙ h
    by false h = h
effect_fewer place now part (labels.Taken n (messages.Withdraw f l)) from fec label ne h =
    (and_parts (not (eq_by_cmp branch_cmp (branch_to from fec label) (branch_to n f l))) (has part from fec label)
    (sym (sets.contains-remove branch_cmp_total part.branches (branch_to n f l) (branch_to from fec label)) ∙ h)).1
effect_fewer place now part (labels.Taken n (messages.Release f l)) from fec label ne h =
    ap (λ (s : sets.FinSet branch_cmp). sets.contains s (branch_to from fec label))
    (sym (released_branches part l (released n f (now + place.life + 1)) (use_of part l))) ∙ h
effect_fewer place now part (labels.Taken n (messages.Ignored kind)) from fec label ne h = h
effect_fewer place now part (labels.Want f) from fec label ne h = h
effect_fewer place now part (labels.Unwant f) from fec label ne h = h
effect_fewer place now part (labels.Raised peer) from fec label ne h = h
effect_fewer place now part (labels.Noticed peer) from fec label ne h =
    (and_parts (has part from fec label) (not (from.0 == peer.0))
    (sym (retained branch_cmp_total branch_cmp_exact part.branches (λ branch. not (branch.node.0 == peer.0)) (branch_to from fec label)) ∙ h)).0
effect_fewer place now part labels.Timers from fec label ne h = h
effect_fewer place now part labels.Rerouted from fec label ne h = h

step_fewer : (place : Place) (now : ℕ) (part : LabelData) (call : labels.Call) (new : settling.Stepped) (from : NodeId) (fec : Fec) (label : ℕ)
    → NotFrom from call → label_step place now part call ≡ Some new → has new.part from fec label ≡ true → has part from fec label ≡ true
step_fewer place now part call new from fec label ne e h =
    effect_fewer place now part call from fec label ne
    (ap (λ (s : sets.FinSet branch_cmp). sets.contains s (branch_to from fec label)) (sym (same_branches place now part call new e)) ∙ h)

abbrev IsLeafCall : labels.Call → Type 0
IsLeafCall (labels.Want fec) = Unit {0}
IsLeafCall (labels.Unwant fec) = Unit {0}
IsLeafCall other = ⊥

leaf_not : (from : NodeId) (call : labels.Call) → IsLeafCall call → NotFrom from call
leaf_not from (labels.Want fec) is = tt
leaf_not from (labels.Unwant fec) is = tt
leaf_not from (labels.Taken n message) is = absurd is
leaf_not from (labels.Raised peer) is = absurd is
leaf_not from (labels.Noticed peer) is = absurd is
leaf_not from labels.Timers is = absurd is
leaf_not from labels.Rerouted is = absurd is

changed_leaf : (old new : sets.FinSet fec_cmp) → AllByRecursion IsLeafCall (changed_leaves old new)
changed_leaf old new =
    let all : List Fec = filter (λ fec. not (sets.contains old fec && sets.contains new fec)) (in_order (sets.union old new)) in
    each_map IsLeafCall (λ fec. cond (sets.contains new fec) (labels.Want fec) (labels.Unwant fec)) all
    (each_of (λ fec. IsLeafCall (cond (sets.contains new fec) (labels.Want fec) (labels.Unwant fec))) (λ fec. one fec (sets.contains new fec))
    all)
  where
    one : (fec : Fec) (t : Bool) → IsLeafCall (cond t (labels.Want fec) (labels.Unwant fec))
    one fec true = tt
    one fec false = tt

row_fewer : (place : EdgePlace) (now : ℕ) (from : NodeId) (fec : Fec) (label : ℕ) (calls : List labels.Call) → AllByRecursion IsLeafCall calls
    → (part : LabelData) (row : List LabelStep) → label_row place now part calls ≡ Some row → has (part_after part row) from fec label ≡ true
    → has part from fec label ≡ true
row_fewer place now from fec label [] are part row e h =
    subst (λ (r : List LabelStep). has (part_after part r) from fec label ≡ true) (sym (same_Some [] row e)) h
row_fewer place now from fec label (call ∷ more) are part row e h =
    let r = row_of place now part call more row e in
    let back : has (part_after r.new.part r.rest) from fec label ≡ true =
    subst (λ (x : List LabelStep). has (part_after part x) from fec label ≡ true) r.parts h in
    step_fewer (label_place place.scenario place.core place.me) now part call r.new from fec label (leaf_not from call are.0) r.made
    (row_fewer place now from fec label more are.1 r.new.part r.rest r.others back)

-- ---- a node

-- The label step of the call itself, if there is one, and nothing else that adds branches: what it leaves.
abbrev Own : Place → ℕ → LabelData → Option labels.Call → (LabelData → Type 0) → Type 0
Own place now part None Q = Q part
Own place now part (Some call) Q = (first : settling.Stepped) → label_step place now part call ≡ Some first → Q first.part

-- what has no more branches than that
abbrev Fewer : (LabelData → Type 0) → NodeId → Type 0
Fewer Q from = (old new : LabelData) → ((fec : Fec) (label : ℕ) → has new from fec label ≡ true → has old from fec label ≡ true) → Q old → Q new

rows_own : (place : EdgePlace) (now : ℕ) (from : NodeId) (Q : LabelData → Type 0) → Fewer Q from
    → (own : Option labels.Call) (wants : List labels.Call) → AllByRecursion IsLeafCall wants → (part : LabelData) (row : List LabelStep)
    → label_row place now part (one_call own ++ wants) ≡ Some row
    → Own (label_place place.scenario place.core place.me) now part own Q → Q (part_after part row)
rows_own place now from Q fewer None wants are part row e q =
    fewer part (part_after part row) (λ fec label h. row_fewer place now from fec label wants are part row e h) q
rows_own place now from Q fewer (Some call) wants are part row e q =
    let r = row_of place now part call wants row e in
    subst (λ (x : List LabelStep). Q (part_after part x)) (sym r.parts)
    (fewer r.new.part (part_after r.new.part r.rest) (λ fec label h. row_fewer place now from fec label wants are r.new.part r.rest r.others h)
    (q r.new r.made))

node_own : (nodes : Nodes) (n from : NodeId) (Q : LabelData → Type 0) → Fewer Q from → (state : NodeState) (call : steps.Call) (new : Stepped Nodes)
    → nodes.node n ≡ state → node_called nodes n state call ≡ Some new
    → Own (label_place_of nodes n) nodes.clock (part_of state) (own_label_call call) Q → Q (part_of (new.state.node n))
node_own nodes n from Q fewer (Edge edge) call new at e q =
    let place : EdgePlace = place_of nodes n in
    let control = control_step place nodes.clock edge.control call in
    let made : EdgeStepped → Stepped Nodes = λ made. record {
      state = with_node nodes n (Edge made.edge);
      puts = bgp_puts place edge.control made.edge.control
          ++ flat_map (label_puts n (addr_of nodes.scenario n) (label_place_of nodes n) nodes.clock) made.row;
    } in
    let after_row : List LabelStep → EdgeStepped =
    λ row. record {
      edge =
          record { control = control; part = part_after edge.part row; raised = raised_after nodes.clock edge.raised call };
      row = row;
    } in
    let wants : List labels.Call = changed_leaves (leaves place edge.control) (leaves place control) in
    let x = bind_some (edge_step place nodes.clock edge call) (λ m. Some (made m)) new e in
    let y = bind_some (label_row place nodes.clock edge.part (one_call (own_label_call call) ++ wants)) (λ row. Some (after_row row)) x.0 x.1 in
    let same : made (after_row y.0) ≡ new = ap made (same_Some (after_row y.0) x.0 y.2) ∙ same_Some (made x.0) new x.2 in
    let there : Q (part_after edge.part y.0) =
    rows_own place nodes.clock from Q fewer (own_label_call call) wants (changed_leaf (leaves place edge.control) (leaves place control))
    edge.part y.0 y.1 q in
    subst (λ (s : Stepped Nodes). Q (part_of (s.state.node n))) same
    (subst (λ (t : Bool). Q (part_of (cond t (Edge
    (record { control = control; part = part_after edge.part y.0; raised = raised_after nodes.clock edge.raised call })) (nodes.node n))))
    (sym (node_itself n n refl)) there)
node_own nodes n from Q fewer (CoreNode part) call new at e q = by (own_label_call call) e q
  where
    by : (o : Option labels.Call) → core_called nodes n part o ≡ Some new → Own (label_place_of nodes n) nodes.clock part o Q
        → Q (part_of (new.state.node n))
    by None e q =
        subst (λ (s : Stepped Nodes). Q (part_of (s.state.node n))) (same_Some (unchanged nodes) new e)
        (subst (λ (state : NodeState). Q (part_of state)) (sym at) q)
    by (Some own) e q =
        let made : settling.Stepped → Stepped Nodes = λ next. record {
          state = with_node nodes n (CoreNode next.part);
          puts = label_puts n (addr_of nodes.scenario n) (label_place_of nodes n) nodes.clock (record { old = part; call = own; new = next });
        } in
        let x = bind_some (label_step (label_place_of nodes n) nodes.clock part own) (λ next. Some (made next)) new e in
        subst (λ (s : Stepped Nodes). Q (part_of (s.state.node n))) (same_Some (made x.0) new x.2)
        (subst (λ (t : Bool). Q (part_of (cond t (CoreNode x.0.part) (nodes.node n)))) (sym (node_itself n n refl)) (q x.0 x.1))

-- ---- what is kept of branches

-- each branch to the neighbour is a label that the messages map
abbrev pub Mapped : NodeId → List SessionMessage → NodeState → Type 0
Mapped from ms state = (fec : Fec) (label : ℕ) → has (part_of state) from fec label ≡ true → IsMapped (labels_in ms) fec label

abbrev MappedPart : NodeId → List LabelMessage → LabelData → Type 0
MappedPart from ms part = (fec : Fec) (label : ℕ) → has part from fec label ≡ true → IsMapped ms fec label

fewer_mapped : (from : NodeId) (ms : List LabelMessage) → Fewer (MappedPart from ms) from
fewer_mapped from ms old new fewer q fec label h = q fec label (fewer fec label h)

-- a call that takes no message from there
own_other : (place : Place) (now : ℕ) (part : LabelData) (from : NodeId) (ms : List LabelMessage) (call : steps.Call) → IsOther kinds.Ldp from call
    → MappedPart from ms part → Own place now part (own_label_call call) (MappedPart from ms)
own_other place now part from ms (steps.Update peer message) ne q = q
own_other place now part from ms (steps.Label n message) ne q =
    λ first e fec label h. q fec label (step_fewer place now part (labels.Taken n message) first from fec label ne e h)
own_other place now part from ms (steps.Customer call) ne q = q
own_other place now part from ms (steps.Raised kinds.Bgp peer) ne q = q
own_other place now part from ms (steps.Raised kinds.Ldp peer) ne q =
    λ first e fec label h. q fec label (step_fewer place now part (labels.Raised peer) first from fec label tt e h)
own_other place now part from ms (steps.Noticed kinds.Bgp peer) ne q = q
own_other place now part from ms (steps.Noticed kinds.Ldp peer) ne q =
    λ first e fec label h. q fec label (step_fewer place now part (labels.Noticed peer) first from fec label tt e h)
own_other place now part from ms steps.Timers ne q =
    λ first e fec label h. q fec label (step_fewer place now part labels.Timers first from fec label tt e h)
own_other place now part from ms steps.Rerouted ne q =
    λ first e fec label h. q fec label (step_fewer place now part labels.Rerouted first from fec label tt e h)

-- a message that is taken
taken_mapped : (place : Place) (now : ℕ) (part : LabelData) (from : NodeId) (ms : List LabelMessage) (message : LabelMessage)
    → MappedPart from ms part → MappedPart from (ms ++ message ∷ []) (effect place now part (labels.Taken from message)).0.part
taken_mapped place now part from ms (messages.Mapping f l) q fec label h = by (place.is_tree f) h
  where
    old : has part from fec label ≡ true → IsMapped (ms ++ messages.Mapping f l ∷ []) fec label
    old h = mapped_more ms (messages.Mapping f l) fec label (λ e. absurd cc) (q fec label h)

    by : (t : Bool) → has (cond t (record part { branches = sets.insert part.branches (branch_to from f l) }) part) from fec label ≡ true
        → IsMapped (ms ++ messages.Mapping f l ∷ []) fec label
    by true h =
        elim (or_cases (eq_by_cmp branch_cmp (branch_to from fec label) (branch_to from f l)) (has part from fec label)
        (sym (sets.contains-insert branch_cmp_total part.branches (branch_to from f l) (branch_to from fec label)) ∙ h)) [
          | inl e ↦
              let same : branch_to from fec label ≡ branch_to from f l = branch_equal (branch_to from fec label) (branch_to from f l) e in
              subst (λ (b : Branch). IsMapped (ms ++ messages.Mapping f l ∷ []) b.fec b.label) (sym same) (mapped_now ms f l)
          | inr e ↦ old e
        ]
    by false h = old h
taken_mapped place now part from ms (messages.Withdraw f l) q fec label h =
    let x = and_parts (not (eq_by_cmp branch_cmp (branch_to from fec label) (branch_to from f l))) (has part from fec label)
    (sym (sets.contains-remove branch_cmp_total part.branches (branch_to from f l) (branch_to from fec label)) ∙ h) in
    mapped_more ms (messages.Withdraw f l) fec label (λ e.
    let ef : f ≡ fec = cc in
    let el : l ≡ label = cc in
    let same : sets.contains (sets.remove part.branches (branch_to from f l)) (branch_to from fec label) ≡ false =
    (λ i. sets.contains (sets.remove part.branches (branch_to from f l)) (branch_to from (sym ef i) (sym el i)))
    ∙ removed_here branch_cmp_total branch_cmp_exact part.branches (branch_to from f l) in
    let y : true ≡ false = sym h ∙ same in absurd cc) (q fec label x.1)
taken_mapped place now part from ms (messages.Release f l) q fec label h =
    mapped_more ms (messages.Release f l) fec label (λ e. absurd cc)
    (q fec label (ap (λ (s : sets.FinSet branch_cmp). sets.contains s (branch_to from fec label))
    (sym (released_branches part l (released from f (now + place.life + 1)) (use_of part l))) ∙ h))
taken_mapped place now part from ms (messages.Ignored kind) q fec label h =
    mapped_more ms (messages.Ignored kind) fec label (λ e. absurd cc) (q fec label h)

-- a loss that is noticed
noticed_none : (place : Place) (now : ℕ) (part : LabelData) (from : NodeId) (fec : Fec) (label : ℕ)
    → has (effect place now part (labels.Noticed from)).0.part from fec label ≡ true → ⊥
noticed_none place now part from fec label h =
    let x = (and_parts (has part from fec label) (not (from.0 == from.0))
    (sym (retained branch_cmp_total branch_cmp_exact part.branches (λ branch. not (branch.node.0 == from.0)) (branch_to from fec label)) ∙ h)).1
    in
    let y : false ≡ true = sym (ap not (node_itself from from refl)) ∙ x in absurd cc

pub mapped_follower : (from to : NodeId) → Follower kinds.Ldp from to (Mapped from)
mapped_follower from to = record {
  called = λ ms nodes state call new at other e p.
      node_own nodes to from (MappedPart from (labels_in ms)) (fewer_mapped from (labels_in ms)) state call new at e
      (own_other (label_place_of nodes to) nodes.clock (part_of state) from (labels_in ms) call other p);
  taken = λ ms nodes state message new at is e p. taken_by ms nodes state message new at is e p;
  noticed = λ nodes state new at e.
      node_own nodes to from (MappedPart from []) (fewer_mapped from []) state (steps.Noticed kinds.Ldp from) new at e (λ first made fec label h.
      absurd (noticed_none (label_place_of nodes to) nodes.clock (part_of state) from fec label
      (ap (λ (s : sets.FinSet branch_cmp). sets.contains s (branch_to from fec label))
      (sym (same_branches (label_place_of nodes to) nodes.clock (part_of state) (labels.Noticed from) first made)) ∙ h)));
  fresh = λ ms scenario fec label h. (let x : true ≡ false =
      sym h ∙ ap (λ (d : LabelData). has d from fec label) (fresh_part scenario to) ∙ sets.contains-empty branch_cmp (branch_to from fec label) in
      absurd cc);
}
  where
    taken_by : (ms : List SessionMessage) (nodes : Nodes) (state : NodeState) (message : SessionMessage) (new : Stepped Nodes) → nodes.node to ≡ state
        → IsOfKind kinds.Ldp message → node_called nodes to state (call_of from message) ≡ Some new → Mapped from ms state
        → Mapped from (ms ++ message ∷ []) (new.state.node to)
    taken_by ms nodes state (Bgp message) new at is e p = absurd is
    taken_by ms nodes state (Label message) new at is e p =
        subst (λ (all : List LabelMessage). MappedPart from all (part_of (new.state.node to))) (sym (labels_both ms (Label message ∷ [])))
        (node_own nodes to from (MappedPart from (labels_in ms ++ message ∷ [])) (fewer_mapped from (labels_in ms ++ message ∷ [])) state
        (steps.Label from message) new at e (λ first made fec label h.
        taken_mapped (label_place_of nodes to) nodes.clock (part_of state) from (labels_in ms) message p fec label
        (ap (λ (s : sets.FinSet branch_cmp). sets.contains s (branch_to from fec label))
        (sym (same_branches (label_place_of nodes to) nodes.clock (part_of state) (labels.Taken from message) first made)) ∙ h)))
