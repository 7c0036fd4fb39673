-- What a node whose flows are those asked for and of whose timers none is due puts in answer to a message: it ranks below the message.
use Rattle.std.proofs.Common.{◌≡◌, ◌<◌, ◌≤◌, ℕ, ◌+◌, ◌==◌, ◌&&◌, ◌||◌, not, Bool, true, false, cond, inl, inr, List, [], ◌∷◌, ◌++◌, map, filter, flat_map, Option, Some, None, refl, sym, ap, subst, ◌∙◌, arith}
use Rattle.std.specs.List.{AllByRecursion}
use Rattle.std.specs.Ordering.{eq_by_cmp}
use Rattle.std.specs.FinMap as maps
use Rattle.std.specs.FinMap.{FinMap}
use Rattle.std.specs.FinSet as sets
use Rattle.std.specs.FinSet.{FinSet}
use Rattle.std.proofs.lemmas.Option.{same_Some}
use Rattle.mv_base.specs.declared.addr.Addr.{Addr}
use Rattle.mv_base.specs.declared.ids.NodeId.{NodeId}
use Rattle.mldp.specs.declared.mldp_fec.fec.Fec.{Fec}
use Rattle.mldp.specs.declared.mldp_msgs.message.LabelMessage.{LabelMessage}
use Rattle.mldp.specs.declared.mldp_msgs.message.LabelMessage.TheVariants as messages
use Rattle.bgp_messages.specs.declared.bgp_attributes.key.Key.{Key}
use Rattle.bgp_messages.specs.declared.bgp_attributes.update.Message.{Message}
use Rattle.bgp_messages.specs.declared.bgp_attributes.update.Message.TheVariants as bgp_messages
use Rattle.bgp_messages.specs.bgp_update.Table.{changes_of}
use Rattle.bgp_messages.specs.bgp_update.Written.{update_of}
use Rattle.label_defs.specs.Keys.{node_cmp, fec_cmp}
use Rattle.label_defs.specs.LabelData.{Place, LabelData}
use Rattle.label_defs.specs.Settled.{AllSettled}
use Rattle.label_defs.specs.Settling as settling
use Rattle.label_defs.specs.Steps as labels
use Rattle.label_defs.specs.Steps.{effect, told, numbered, label_step}
use Rattle.label_defs.specs.declared.end.End.{End}
use Rattle.label_defs.specs.declared.put.Put as label_puts
use Rattle.label_defs.specs.Members.{in_order}
use Rattle.label_defs.proofs.KeyLemmas.{node_equal, fec_cmp_total}
use Rattle.label_defs.proofs.SettleLemmas.{bind_some}
use Rattle.label_defs.proofs.MemberLemmas.{contains_in_order}
use Rattle.label_laws.specs.Rounds as label_rounds
use Rattle.label_laws.proofs.Answers.{PutsBelow, answers_below}
use Rattle.mvpn_model.specs.Sessions.{edges}
use Rattle.selective_defs.specs.Selective.{Among}
use Rattle.network_defs.specs.session_defs.Message.{SessionMessage, Bgp, Label}
use Rattle.network_defs.specs.session_defs.System.{Put, Stepped}
use Rattle.mv_base.specs.declared.table_defs.change.Change.{Change}
use Rattle.mv_base.specs.declared.table_defs.change.Change.TheVariants.{Reach, Unreach}
use Rattle.table_laws.proofs.CompareLemmas.{own_key}
use Rattle.edge_defs.specs.Edge.{Control, EdgeData}
use Rattle.edge_defs.specs.Held.{put_to}
use Rattle.edge_defs.specs.Keys.{Value}
use Rattle.edge_defs.specs.Messages.{as_update}
use Rattle.edge_defs.specs.Place.{EdgePlace, addr_of, label_place}
use Rattle.edge_defs.specs.Steps as steps
use Rattle.edge_defs.specs.Steps.{LabelStep, EdgeStepped, control_step, own_label_call, changed_leaves, one_call, label_row, part_after, raised_after, edge_step}
use Rattle.edge_defs.specs.Tunnels.{leaves}
use Rattle.edge_words.proofs.calm_laws.Lists.{any_from}
use Rattle.network_defs.specs.Nodes.{NodeState, Edge, CoreNode, Nodes, with_node, place_of, label_place_of, part_of}
use Rattle.network_defs.specs.node_defs.Puts.{bgp_put, bgp_puts, label_put, label_puts as puts_of}
use Rattle.network_defs.specs.System.{edge_stepped, core_called, node_called, call_of}
use Rattle.network_defs.proofs.Nothing.{flat_none}
use Rattle.network_laws.proofs.Lists.{each_append, each_of, each_map, each_flat, each_weaker}
use Rattle.rule_laws.proofs.Rows.{row_of}
use Rattle.settle_laws.specs.Ranks.{IsJoin, IsFresh, joins_only, rank}
use Rattle.settle_laws.proofs.Fresh.{label_quiet, joins_quiet}
use Rattle.settle_laws.proofs.Joins.{routes_answered}
use Rattle.settle_laws.proofs.LabelsDue.{Rested, IsInner, inner_rests, timers_rest}
use Rattle.settle_laws.proofs.Due.{ControlRests, taken_control_rests, timed_control_rests}

-- ---- what holds of a node throughout

-- The flows of an edge are those that are asked for, and no timer of the node is due.
abbrev pub IsStill : Nodes → NodeId → NodeState → Type 0
IsStill nodes n (Edge edge) =
    IsFresh (place_of nodes n) nodes.clock edge.control × ControlRests (place_of nodes n) nodes.clock edge.control
    × Rested nodes.scenario.life nodes.clock edge.part
IsStill nodes n (CoreNode part) = Rested nodes.scenario.life nodes.clock part

-- ---- the leaves that change

no_filter : (p : Fec → Bool) (fecs : List Fec) → ((fec : Fec) → Among fec fecs → p fec ≡ false) → filter p fecs ≡ []
no_filter p [] h = refl
no_filter p (fec ∷ more) h =
    ap (λ (b : Bool). cond b (fec ∷ filter p more) (filter p more)) (h fec (inl refl)) ∙ no_filter p more (λ x a. h x (inr a))

either_same : (b : Bool) → (b || b) ≡ true → b ≡ true
either_same true e = e
either_same false e = e

pub none_changed : (old new : FinSet fec_cmp) → old ≡ new → changed_leaves old new ≡ []
none_changed old new same =
    ap (changed_leaves old) (sym same) ∙ ap (map (λ fec. cond (sets.contains old fec) (labels.Want fec) (labels.Unwant fec)))
    (no_filter (λ fec. not (sets.contains old fec && sets.contains old fec)) (in_order (sets.union old old)) (λ fec a.
    let there : sets.contains (sets.union old old) fec ≡ true =
    contains_in_order fec_cmp_total (sets.union old old) fec
    ∙ any_from (eq_by_cmp fec_cmp fec) fec (in_order (sets.union old old)) a (own_key fec_cmp_total fec) in
    let own : sets.contains old fec ≡ true = either_same (sets.contains old fec) (sym (sets.contains-union fec_cmp_total old old fec) ∙ there) in
    ap (λ (b : Bool). not (b && b)) own))

leaf_inner : (b : Bool) (fec : Fec) → IsInner (cond b (labels.Want fec) (labels.Unwant fec))
leaf_inner true fec = tt
leaf_inner false fec = tt

changed_inner : (old new : FinSet fec_cmp) → AllByRecursion IsInner (changed_leaves old new)
changed_inner old new =
    let some : List Fec = filter (λ fec. not (sets.contains old fec && sets.contains new fec)) (in_order (sets.union old new)) in
    each_map IsInner (λ fec. cond (sets.contains new fec) (labels.Want fec) (labels.Unwant fec)) some
    (each_of (λ fec. IsInner (cond (sets.contains new fec) (labels.Want fec) (labels.Unwant fec))) (λ fec. leaf_inner (sets.contains new fec) fec)
    some)

-- ---- a row of label steps

row_rests : (place : EdgePlace) (now : ℕ) (calls : List labels.Call) → AllByRecursion IsInner calls → (part : LabelData) (row : List LabelStep)
    → label_row place now part calls ≡ Some row → Rested place.scenario.life now part → Rested place.scenario.life now (part_after part row)
row_rests place now [] are part row e r = subst (λ (x : List LabelStep). Rested place.scenario.life now (part_after part x)) (same_Some [] row e) r
row_rests place now (call ∷ more) are part row e r =
    let x = row_of place now part call more row e in
    subst (λ (y : List LabelStep). Rested place.scenario.life now (part_after part y)) (sym x.parts)
    (row_rests place now more are.1 x.new.part x.rest x.others
    (inner_rests (label_place place.scenario place.core place.me) now part call x.new are.0 r x.made))

timers_row_rests : (place : EdgePlace) (now : ℕ) (more : List labels.Call) → AllByRecursion IsInner more → (part : LabelData) (row : List LabelStep)
    → label_row place now part (labels.Timers ∷ more) ≡ Some row → Rested place.scenario.life now (part_after part row)
timers_row_rests place now more are part row e =
    let x = row_of place now part labels.Timers more row e in
    subst (λ (y : List LabelStep). Rested place.scenario.life now (part_after part y)) (sym x.parts)
    (row_rests place now more are x.new.part x.rest x.others (timers_rest (label_place place.scenario place.core place.me) now part x.new x.made))

-- ---- a step of an edge, taken apart

-- an edge after a row of label steps, with all that it puts
abbrev pub edge_thereafter : Nodes → NodeId → EdgeData → steps.Call → List LabelStep → Stepped Nodes
edge_thereafter nodes n edge call row =
    let control = control_step (place_of nodes n) nodes.clock edge.control call in
    record {
      state = with_node nodes n (Edge (record {
        control = control;
        part = part_after edge.part row;
        raised =
            raised_after nodes.clock edge.raised call;
      }));
      puts = bgp_puts (place_of nodes n) edge.control control
          ++ flat_map (puts_of n (addr_of nodes.scenario n) (label_place_of nodes n) nodes.clock) row;
    }

pub record EdgeRow (nodes : Nodes) (n : NodeId) (edge : EdgeData) (call : steps.Call) (new : Stepped Nodes) : Type 0 where
  pub row : List LabelStep
  pub made : label_row (place_of nodes n) nodes.clock edge.part
      (one_call (own_label_call call) ++ changed_leaves (leaves (place_of nodes n) edge.control)
      (leaves (place_of nodes n) (control_step (place_of nodes n) nodes.clock edge.control call))) ≡ Some row
  pub same : edge_thereafter nodes n edge call row ≡ new

pub edge_row : (nodes : Nodes) (n : NodeId) (edge : EdgeData) (call : steps.Call) (new : Stepped Nodes) → edge_stepped nodes n edge call ≡ Some new
    → EdgeRow nodes n edge call new
edge_row nodes n edge call new e =
    let place : EdgePlace = place_of nodes n in
    let control : Control = control_step place nodes.clock edge.control call in
    let stepped : EdgeStepped → Stepped Nodes = λ made. record {
      state = with_node nodes n (Edge made.edge);
      puts = bgp_puts place edge.control made.edge.control
          ++ flat_map (puts_of n (addr_of nodes.scenario n) (label_place_of nodes n) nodes.clock) made.row;
    } in
    let after_row : List LabelStep → EdgeStepped =
    λ row. record {
      edge =
          record { control = control; part = part_after edge.part row; raised = raised_after nodes.clock edge.raised call };
      row = row;
    } in
    let calls : List labels.Call = one_call (own_label_call call) ++ changed_leaves (leaves place edge.control) (leaves place control) in
    let x = bind_some (edge_step place nodes.clock edge call) (λ made. Some (stepped made)) new e in
    let y = bind_some (label_row place nodes.clock edge.part calls) (λ row. Some (after_row row)) x.0 x.1 in
    record { row = y.0; made = y.1; same = ap stepped (same_Some (after_row y.0) x.0 y.2) ∙ same_Some (stepped x.0) new x.2 }

core_made : (nodes : Nodes) (n : NodeId) (part : LabelData) (call : labels.Call) (new : Stepped Nodes)
    → core_called nodes n part (Some call) ≡ Some new
    → (first : settling.Stepped) × (label_step (label_place_of nodes n) nodes.clock part call ≡ Some first)
    × (record {
      state = with_node nodes n (CoreNode first.part);
      puts =
          puts_of n (addr_of nodes.scenario n) (label_place_of nodes n) nodes.clock (record { old = part; call = call; new = first });
    } ≡ new)
core_made nodes n part call new e =
    let stepped : settling.Stepped → Stepped Nodes = λ first. record {
      state = with_node nodes n (CoreNode first.part);
      puts = puts_of n (addr_of nodes.scenario n) (label_place_of nodes n) nodes.clock (record { old = part; call = call; new = first });
    } in
    let x = bind_some (label_step (label_place_of nodes n) nodes.clock part call) (λ first. Some (stepped first)) new e in
    (x.0, x.1, same_Some (stepped x.0) new x.2)

-- ---- what is put

module _ (depth : NodeId → Fec → ℕ) (most : ℕ) where
  -- each message of a unit ranks below a bound
  abbrev pub IsBelow : ℕ → Put → Type 0
  IsBelow bound put = AllByRecursion (λ (m : SessionMessage). rank depth most put.over.to m < bound) put.unit.messages

  abbrev pub AreBelow : ℕ → List Put → Type 0
  AreBelow bound puts = AllByRecursion (IsBelow bound) puts

  numbered_below : (bound : ℕ) (me : NodeId) (addr : Addr) (ends : FinMap node_cmp End) (puts : List label_puts.Put) → PutsBelow depth bound puts
      → AreBelow bound (map (label_put me addr) (numbered ends puts))
  numbered_below bound me addr ends [] h = tt
  numbered_below bound me addr ends (put ∷ more) h = by (λ ends'. numbered_below bound me addr ends' more h.1) (maps.get ends put.to)
    where
      by : ((ends' : FinMap node_cmp End) → AreBelow bound (map (label_put me addr) (numbered ends' more))) → (o : Option End)
          → AreBelow bound (map (label_put me addr) (elim o
          [ None ↦ numbered ends more | Some end ↦ record { id = end.next; put = put } ∷ numbered (maps.insert ends put.to (told end)) more ]))
      by rest None = rest ends
      by rest (Some end) = ((h.0, tt), rest (maps.insert ends put.to (told end)))

  pub label_low : ((n : NodeId) (fec : Fec) → depth n fec < most) → (n : NodeId) (m : LabelMessage) → label_rounds.rank depth n m < most + 1
  label_low low n (messages.Mapping fec label) = let x = low n fec in omega (arith, x)
  label_low low n (messages.Withdraw fec label) = let x = low n fec in omega (arith, x)
  label_low low n (messages.Release fec label) = omega arith
  label_low low n (messages.Ignored kind) = omega arith

  any_below : ((n : NodeId) (fec : Fec) → depth n fec < most) → (puts : List label_puts.Put) → PutsBelow depth (most + 1) puts
  any_below low puts =
      each_of (λ (put : label_puts.Put). label_rounds.rank depth put.to put.message < most + 1) (λ put. label_low low put.to put.message) puts

  row_below : ((n : NodeId) (fec : Fec) → depth n fec < most) → (me : NodeId) (addr : Addr) (place : Place) (now : ℕ) (row : List LabelStep)
      → AreBelow (most + 1) (flat_map (puts_of me addr place now) row)
  row_below low me addr place now row = each_flat (IsBelow (most + 1)) (puts_of me addr place now) row
      (each_of (λ (step : LabelStep). AreBelow (most + 1) (puts_of me addr place now step))
      (λ step. numbered_below (most + 1) me addr (effect place now step.old step.call).0.part.ends step.new.puts (any_below low step.new.puts))
      row)

  join_message : (change : Change Key Value) → IsJoin change → joins_only (changes_of (bgp_messages.Update (update_of (as_update change)))) ≡ true
  join_message (Reach key value) is = ap (λ (k : ℕ). (k == 7) && true) is
  join_message (Unreach key) is = ap (λ (k : ℕ). (k == 7) && true) is

  join_below : (me to : NodeId) (change : Change Key Value) → IsJoin change → IsBelow (most + 1) (bgp_put me to change)
  join_below me to change is =
      let none : rank depth most to (Bgp (bgp_messages.Update (update_of (as_update change)))) ≡ 0 =
      ap (λ (b : Bool). cond b 0 (most + 1)) (join_message change is) in
      (omega (arith, none), tt)

  joins_below : (place : EdgePlace) (old new : Control) → ((to : NodeId) → AllByRecursion IsJoin (put_to place old new to))
      → AreBelow (most + 1) (bgp_puts place old new)
  joins_below place old new joins =
      each_flat (IsBelow (most + 1)) (λ peer. map (bgp_put place.me peer) (put_to place old new peer)) (edges place.scenario)
      (each_of (λ peer. AreBelow (most + 1) (map (bgp_put place.me peer) (put_to place old new peer))) (λ peer.
      each_map (IsBelow (most + 1)) (bgp_put place.me peer) (put_to place old new peer)
      (each_weaker IsJoin (λ change. IsBelow (most + 1) (bgp_put place.me peer change)) (λ change is. join_below place.me peer change is)
      (put_to place old new peer) (joins peer))) (edges place.scenario))

  quiet_puts : (place : EdgePlace) (old new : Control) → ((to : NodeId) → put_to place old new to ≡ []) → bgp_puts place old new ≡ []
  quiet_puts place old new none =
      flat_none (λ peer. map (bgp_put place.me peer) (put_to place old new peer)) (λ peer. ap (map (bgp_put place.me peer)) (none peer))
      (edges place.scenario)

  -- ---- a message that is taken

  -- the node after a step, still, and what it puts, below a bound
  pub record Answered (nodes : Nodes) (b : NodeId) (bound : ℕ) (new : Stepped Nodes) : Type 0 where
    pub node : NodeState
    pub state : new.state ≡ with_node nodes b node
    pub still : IsStill nodes b node
    pub puts : AreBelow bound new.puts

  module _ (nodes : Nodes) (a b : NodeId) (low : (n : NodeId) (fec : Fec) → depth n fec < most)
      (nearer : (n v : NodeId) (fec : Fec) → (label_place_of nodes n).upstream fec ≡ Some v → depth v fec < depth n fec)
      (delay : 1 ≤ nodes.scenario.delay) where
    abbrev place : EdgePlace
    place = place_of nodes b

    abbrev own_place : Place
    own_place = label_place_of nodes b

    -- a label message at an edge
    label_at_edge : (edge : EdgeData) (message : LabelMessage) (new : Stepped Nodes) → AllSettled own_place edge.part → IsStill nodes b (Edge edge)
        → edge_stepped nodes b edge (steps.Label a message) ≡ Some new → Answered nodes b (rank depth most b (Label message)) new
    label_at_edge edge message new settled still e =
        let r = edge_row nodes b edge (steps.Label a message) new e in
        let control : Control = control_step place nodes.clock edge.control (steps.Label a message) in
        let quiet = label_quiet place nodes.clock edge.control a message still.0 in
        let none : changed_leaves (leaves place edge.control) (leaves place control) ≡ [] =
        none_changed (leaves place edge.control) (leaves place control) quiet.leaves in
        let made : label_row place nodes.clock edge.part (labels.Taken a message ∷ []) ≡ Some r.row =
        ap (λ (calls : List labels.Call). label_row place nodes.clock edge.part (labels.Taken a message ∷ calls)) (sym none) ∙ r.made in
        let x = row_of place nodes.clock edge.part (labels.Taken a message) [] r.row made in
        let one : r.row ≡ record { old = edge.part; call = labels.Taken a message; new = x.new } ∷ [] =
        x.parts ∙ ap (λ (rest : List LabelStep). record { old = edge.part; call = labels.Taken a message; new = x.new } ∷ rest)
        (sym (same_Some [] x.rest x.others)) in
        let bound : ℕ = rank depth most b (Label message) in
        let puts : List LabelStep → List Put = flat_map (puts_of b (addr_of nodes.scenario b) own_place nodes.clock) in
        let answers : AreBelow bound (puts (record { old = edge.part; call = labels.Taken a message; new = x.new } ∷ [])) =
        each_append (IsBelow bound) (puts_of b (addr_of nodes.scenario b) own_place nodes.clock
        (record { old = edge.part; call = labels.Taken a message; new = x.new })) []
        (numbered_below bound b (addr_of nodes.scenario b) (effect own_place nodes.clock edge.part (labels.Taken a message)).0.part.ends x.new.puts
        (answers_below own_place nodes.clock edge.part depth a b settled (λ v fec up. nearer b v fec up) message x.new x.made)) tt in
        record {
          node = Edge (record {
            control = control;
            part = part_after edge.part r.row;
            raised =
                raised_after nodes.clock edge.raised (steps.Label a message);
          });
          state = sym (ap (λ (s : Stepped Nodes). s.state) r.same);
          still = (
            refl,
            record { entries = still.1.entries; selections = still.1.selections; routes = still.1.routes },
            row_rests place nodes.clock (labels.Taken a message ∷ []) (tt, tt) edge.part r.row made still.2,
          );
          puts = subst (λ (s : Stepped Nodes). AreBelow bound s.puts) r.same
              (subst (λ (ps : List Put). AreBelow bound (ps ++ puts r.row)) (sym (quiet_puts place edge.control control quiet.puts))
              (subst (λ (row : List LabelStep). AreBelow bound (puts row)) (sym one) answers));
        }

    label_at_core : (part : LabelData) (message : LabelMessage) (new : Stepped Nodes) → AllSettled own_place part → IsStill nodes b (CoreNode part)
        → core_called nodes b part (Some (labels.Taken a message)) ≡ Some new → Answered nodes b (rank depth most b (Label message)) new
    label_at_core part message new settled still e =
        let x = core_made nodes b part (labels.Taken a message) new e in
        let bound : ℕ = rank depth most b (Label message) in
        record {
          node = CoreNode x.0.part;
          state = sym (ap (λ (s : Stepped Nodes). s.state) x.2);
          still = inner_rests own_place nodes.clock part (labels.Taken a message) x.0 tt still x.1;
          puts = subst (λ (s : Stepped Nodes). AreBelow bound s.puts) x.2
              (numbered_below bound b (addr_of nodes.scenario b) (effect own_place nodes.clock part (labels.Taken a message)).0.part.ends x.0.puts
              (answers_below own_place nodes.clock part depth a b settled (λ v fec up. nearer b v fec up) message x.0 x.1));
        }

    -- joins at an edge
    joins_at_edge : (edge : EdgeData) (message : Message) (new : Stepped Nodes) → joins_only (changes_of message) ≡ true → IsStill nodes b (Edge edge)
        → edge_stepped nodes b edge (steps.Update a message) ≡ Some new → Answered nodes b 0 new
    joins_at_edge edge message new joins still e =
        let r = edge_row nodes b edge (steps.Update a message) new e in
        let control : Control = control_step place nodes.clock edge.control (steps.Update a message) in
        let quiet = joins_quiet place nodes.clock edge.control a message still.0 joins in
        let none : changed_leaves (leaves place edge.control) (leaves place control) ≡ [] =
        none_changed (leaves place edge.control) (leaves place control) quiet.leaves in
        let made : Some [] ≡ Some r.row = ap (λ (calls : List labels.Call). label_row place nodes.clock edge.part calls) (sym none) ∙ r.made in
        let row : [] ≡ r.row = same_Some [] r.row made in
        record {
          node = Edge (record {
            control = control;
            part = part_after edge.part r.row;
            raised =
                raised_after nodes.clock edge.raised (steps.Update a message);
          });
          state = sym (ap (λ (s : Stepped Nodes). s.state) r.same);
          still = (
            refl,
            taken_control_rests place nodes.clock edge.control a message delay still.1,
            subst (λ (x : List LabelStep). Rested nodes.scenario.life nodes.clock (part_after edge.part x)) row still.2,
          );
          puts = subst (λ (s : Stepped Nodes). AreBelow 0 s.puts) r.same
              (subst (λ (ps : List Put). AreBelow 0 (ps ++ flat_map (puts_of b (addr_of nodes.scenario b) own_place nodes.clock) r.row))
              (sym (quiet_puts place edge.control control quiet.puts))
              (subst (λ (x : List LabelStep). AreBelow 0 (flat_map (puts_of b (addr_of nodes.scenario b) own_place nodes.clock) x)) row tt));
        }

    -- a route at an edge
    route_at_edge : (edge : EdgeData) (message : Message) (new : Stepped Nodes) → IsStill nodes b (Edge edge)
        → edge_stepped nodes b edge (steps.Update a message) ≡ Some new → Answered nodes b (most + 1) new
    route_at_edge edge message new still e =
        let r = edge_row nodes b edge (steps.Update a message) new e in
        let control : Control = control_step place nodes.clock edge.control (steps.Update a message) in
        record {
          node = Edge (record {
            control = control;
            part = part_after edge.part r.row;
            raised =
                raised_after nodes.clock edge.raised (steps.Update a message);
          });
          state = sym (ap (λ (s : Stepped Nodes). s.state) r.same);
          still = (
            refl,
            taken_control_rests place nodes.clock edge.control a message delay still.1,
            row_rests place nodes.clock (changed_leaves (leaves place edge.control) (leaves place control))
                (changed_inner (leaves place edge.control) (leaves place control)) edge.part r.row r.made still.2,
          );
          puts = subst (λ (s : Stepped Nodes). AreBelow (most + 1) s.puts) r.same
              (each_append (IsBelow (most + 1)) (bgp_puts place edge.control control)
              (flat_map (puts_of b (addr_of nodes.scenario b) own_place nodes.clock) r.row)
              (joins_below place edge.control control (λ to. routes_answered place nodes.clock edge.control a message to))
              (row_below low b (addr_of nodes.scenario b) own_place nodes.clock r.row));
        }

    update_at_edge : (edge : EdgeData) (message : Message) (new : Stepped Nodes) (joins : Bool) → joins_only (changes_of message) ≡ joins
        → IsStill nodes b (Edge edge) → edge_stepped nodes b edge (steps.Update a message) ≡ Some new → Answered nodes b (cond joins 0 (most + 1)) new
    update_at_edge edge message new true is still e = joins_at_edge edge message new is still e
    update_at_edge edge message new false is still e = route_at_edge edge message new still e

    itself : (b : Bool) (x y : NodeState) → (b ≡ true → y ≡ x) → y ≡ cond b x y
    itself true x y h = h refl
    itself false x y h = refl

    pub answered : (old : NodeState) (message : SessionMessage) (new : Stepped Nodes) → nodes.node b ≡ old → AllSettled own_place (part_of old)
        → IsStill nodes b old → node_called nodes b old (call_of a message) ≡ Some new → Answered nodes b (rank depth most b message) new
    answered (Edge edge) (Label message) new at settled still e = label_at_edge edge message new settled still e
    answered (CoreNode part) (Label message) new at settled still e = label_at_core part message new settled still e
    answered (Edge edge) (Bgp message) new at settled still e = update_at_edge edge message new (joins_only (changes_of message)) refl still e
    answered (CoreNode part) (Bgp message) new at settled still e =
        let same = same_Some (record { state = nodes; puts = [] }) new e in
        record {
          node = CoreNode part;
          state = sym (ap (λ (s : Stepped Nodes). s.state) same)
              ∙ (λ i. record nodes { node = λ m. itself (m.0 == b.0) (CoreNode part) (nodes.node m) (λ t. ap nodes.node (node_equal m b t) ∙ at) i });
          still = still;
          puts = subst (λ (s : Stepped Nodes). AreBelow (rank depth most b (Bgp message)) s.puts) same tt;
        }

-- ---- timers

-- the node after its timers is still
pub record TimersRun (nodes : Nodes) (n : NodeId) (new : Stepped Nodes) : Type 0 where
  pub node : NodeState
  pub state : new.state ≡ with_node nodes n node
  pub still : IsStill nodes n node

pub timers_run : (nodes : Nodes) (n : NodeId) (old : NodeState) (new : Stepped Nodes) → node_called nodes n old steps.Timers ≡ Some new
    → TimersRun nodes n new
timers_run nodes n (Edge edge) new e =
    let r = edge_row nodes n edge steps.Timers new e in
    let control : Control = control_step (place_of nodes n) nodes.clock edge.control steps.Timers in
    let old_leaves = leaves (place_of nodes n) edge.control in
    let new_leaves = leaves (place_of nodes n) control in
    record {
      node = Edge (record { control = control; part = part_after edge.part r.row; raised = raised_after nodes.clock edge.raised steps.Timers });
      state = sym (ap (λ (s : Stepped Nodes). s.state) r.same);
      still = (
        refl,
        timed_control_rests (place_of nodes n) nodes.clock edge.control,
        timers_row_rests (place_of nodes n) nodes.clock (changed_leaves old_leaves new_leaves) (changed_inner old_leaves new_leaves) edge.part r.row
            r.made,
      );
    }
timers_run nodes n (CoreNode part) new e =
    let x = core_made nodes n part labels.Timers new e in
    record {
      node = CoreNode x.0.part;
      state = sym (ap (λ (s : Stepped Nodes). s.state) x.2);
      still =
          timers_rest (label_place_of nodes n) nodes.clock part x.0 x.1;
    }
