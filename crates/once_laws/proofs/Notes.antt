-- The sources that the events note are those that the edges have noted, after every run.
use Rattle.std.specs.Prelude.{⊤}
use Rattle.std.proofs.Common.{not, ◌&&◌, ◌||◌, ◌≡◌, ℕ, ◌+◌, ◌==◌, Bool, true, false, cond, List, [], ◌∷◌, Option, Some, None, refl, sym, ap, subst, ◌∙◌}
use Rattle.std.specs.Cmp.{both_ways, Equal-is}
use Rattle.std.specs.List.{fold}
use Rattle.std.specs.FinMap as maps
use Rattle.std.specs.FinSet as sets
use Rattle.std.specs.Ordering.{eq_by_cmp}
use Rattle.std.proofs.lemmas.Bool.{cond_both, true≢false, false_from_ne_true, and_parts, and_from, eqb-true, eq-eqb}
use Rattle.std.proofs.lemmas.Option.{none-some, same_Some}
use Rattle.mv_base.specs.Address.{same_addr, same_addr_equiv, same_addr_equal}
use Rattle.mv_base.specs.declared.addr.Addr.{Addr}
use Rattle.mv_base.specs.declared.ids.IfaceId.{IfaceId}
use Rattle.mv_base.specs.declared.ids.NodeId.{NodeId}
use Rattle.bgp_messages.specs.declared.bgp_attributes.update.Message.{Message}
use Rattle.bgp_messages.specs.bgp_update.Table.{changes_of}
use Rattle.mvpn_model.specs.Past.{is_accepted, is_of_edge, is_flow_at, noted_by, noted_after}
use Rattle.mvpn_model.specs.Report.{refused_lines}
use Rattle.mvpn_model.specs.Sessions.{sessions}
use Rattle.scenario_defs.specs.Rules.{Rules, Rises}
use Rattle.scenario_defs.specs.Vpn.{edge_of}
use Rattle.scenario_defs.specs.declared.event.Event.{Event}
use Rattle.scenario_defs.specs.declared.event.CustomerEvent.TheVariants as customers
use Rattle.scenario_defs.specs.declared.event.Event.TheVariants as events
use Rattle.mvpn_model.specs.Messages.{read_at}
use Rattle.mvpn_model.specs.declared.message.Given.{Given}
use Rattle.scenario_defs.specs.declared.event.Kind.TheVariants as kinds
use Rattle.scenario_defs.specs.declared.event.Timed.{Timed}
use Rattle.scenario_defs.specs.declared.report.Refusal.{Refusal}
use Rattle.scenario_defs.specs.declared.report.ReportLine.TheVariants as lines
use Rattle.scenario_defs.specs.declared.scenario.Scenario.{Scenario}
use Rattle.label_defs.specs.LabelData as labels
use Rattle.label_defs.specs.LabelData.{LabelData}
use Rattle.label_defs.specs.Settling as settling
use Rattle.label_defs.specs.Steps as label_steps
use Rattle.label_defs.specs.Steps.{label_step}
use Rattle.label_defs.proofs.KeyLemmas.{node_equal, ties}
use Rattle.network_defs.specs.session_defs.System.{Stepped}
use Rattle.edge_defs.specs.Edge as edges
use Rattle.edge_defs.specs.Edge.{Note, note_cmp, Taken, Control}
use Rattle.edge_defs.specs.Place.{EdgePlace}
use Rattle.network_defs.specs.Costs.{Cores}
use Rattle.edge_defs.specs.Steps as steps
use Rattle.edge_defs.specs.Steps.{EdgeStepped, edge_step, own_label_call, control_step}
use Rattle.edge_defs.proofs.KeyLemmas.{note_total, note_exact}
use Rattle.network_defs.specs.Acts.{At}
use Rattle.network_defs.specs.Events.{Happened, Done, row, one_act, at_edge, done}
use Rattle.network_defs.specs.Nodes.{NodeState, Edge, CoreNode, Nodes, is_edge, fresh_node, with_node, place_of, label_place_of, following}
use Rattle.network_defs.specs.Refusals.{control_of, refusal, message_call}
use Rattle.network_defs.specs.Run.{Traced, Runs, outcome, report_of}
use Rattle.network_defs.specs.System.{NodeCall, Own, Elapse, Reset, Price, Follow, node_called, core_called, nodes_called}
use Rattle.network_defs.specs.World.{World, start, scenario_of}
use Rattle.delivery_laws.proofs.Accepted.{TellsAccepted, accepts, tells_accepted}
use Rattle.delivery_laws.proofs.Outcomes.{Leads, then_leads, one_leads, leads_as}
use Rattle.delivery_laws.proofs.Silent.{any_lines}
use Rattle.network_laws.proofs.ready_laws.Ends.{Holds, holds_from, holds_then}
use Rattle.rule_laws.proofs.Rows.{IsEdgeNode}
use Rattle.once_laws.specs.Told.{NotesAreTold}
use Rattle.once_laws.proofs.Carry.{IsOfSession, EventMay, event_holds, MayFor}
use Rattle.once_laws.proofs.Rests.{unfed_rests}
use Rattle.once_laws.proofs.Stands.{edge_control}
use Rattle.once_laws.proofs.StandRuns.{Any, AllRest, Free, all_fit, rests_hold, iface_edge, call_gives}

-- ---- nodes

-- what is told of each note
abbrev Noted : Type 0
Noted = Note → Bool

abbrev has : NodeState → Note → Bool
has state note = sets.contains (control_of state).notes note

-- Edges are edges, and of each interface its edge has the notes that are told of it.
record NotesStand (scenario : Scenario) (noted : Noted) (nodes : Nodes) : Type 0 where
  same : nodes.scenario ≡ scenario
  kinds : (n : NodeId) → is_edge scenario n ≡ true → IsEdgeNode (nodes.node n)
  notes : (note : Note) (n : NodeId) → edge_of scenario note.iface ≡ Some n → noted note ≡ has (nodes.node n) note

-- the call of a customer leaves notes as they are
abbrev LeavesNotes : steps.CustomerCall → Type 0
LeavesNotes call = (old : sets.FinSet note_cmp) → steps.notes_after old call ≡ old

-- no call that changes notes, and no restart
abbrev MayStand : NodeCall → Type 0
MayStand (Own n (steps.Customer call)) = LeavesNotes call
MayStand (Own n call) = ⊤
MayStand (Elapse ticks) = ⊤
MayStand (Reset n) = ⊥
MayStand (Price a b cost) = ⊤
MayStand (Follow n) = ⊤

update_notes : (now : ℕ) (peer : NodeId) (message : Message) (old : Control) → (steps.with_update now peer message old).notes ≡ old.notes
update_notes now peer message old = by (maps.get old.peers peer)
  where
    by : (o : Option Taken) → (elim o as (λ _. Control) [
      | None ↦ old
      | Some taken ↦ record old { peers = maps.insert old.peers peer (fold (steps.taken_change now) taken (changes_of message)) }
    ]).notes ≡ old.notes
    by None = refl
    by (Some taken) = refl

step_notes : (place : EdgePlace) (now : ℕ) (n : NodeId) (old : Control) (call : steps.Call) → MayStand (Own n call)
    → (control_step place now old call).notes ≡ old.notes
step_notes place now n old (steps.Update peer message) w = update_notes now peer message old
step_notes place now n old (steps.Label neighbour message) w = refl
step_notes place now n old (steps.Customer call) w = w old.notes
step_notes place now n old (steps.Raised kinds.Bgp peer) w = refl
step_notes place now n old (steps.Raised kinds.Ldp peer) w = refl
step_notes place now n old (steps.Noticed kinds.Bgp peer) w = refl
step_notes place now n old (steps.Noticed kinds.Ldp peer) w = refl
step_notes place now n old steps.Timers w = refl
step_notes place now n old steps.Rerouted w = refl

-- one node becomes another, which has the notes that are told
one_stands : (scenario : Scenario) (old noted : Noted) (nodes : Nodes) (at : NodeId) (new : NodeState) → NotesStand scenario old nodes
    → (IsEdgeNode (nodes.node at) → IsEdgeNode new)
    → ((note : Note) (n : NodeId) → edge_of scenario note.iface ≡ Some n → (n.0 == at.0) ≡ true → noted note ≡ has new note)
    → ((note : Note) (n : NodeId) → edge_of scenario note.iface ≡ Some n → (n.0 == at.0) ≡ false → noted note ≡ old note)
    → NotesStand scenario noted (with_node nodes at new)
one_stands scenario old noted nodes at new s kind here away = record {
  same = s.same;
  kinds = λ n h. cond_both (n.0 == at.0) new (nodes.node n) IsEdgeNode
      (λ t. kind (subst (λ (m : NodeId). IsEdgeNode (nodes.node m)) (node_equal n at t) (s.kinds n h))) (λ f. s.kinds n h);
  notes = λ note n e. cond_both (n.0 == at.0) new (nodes.node n) (λ (state : NodeState). noted note ≡ has state note) (λ t. here note n e t)
      (λ f. away note n e f ∙ s.notes note n e);
}

same_notes : (scenario : Scenario) (noted : Noted) (nodes : Nodes) (at : NodeId) (new : NodeState) → NotesStand scenario noted nodes
    → (IsEdgeNode (nodes.node at) → IsEdgeNode new) → (control_of new).notes ≡ (control_of (nodes.node at)).notes
    → NotesStand scenario noted (with_node nodes at new)
same_notes scenario noted nodes at new s kind kept =
    one_stands scenario noted noted nodes at new s kind
    (λ note n e t. s.notes note n e ∙ ap (λ (m : NodeId). has (nodes.node m) note) (node_equal n at t)
    ∙ ap (λ (x : sets.FinSet note_cmp). sets.contains x note) (sym kept))
    (λ note n e f. refl)

called_stands : (scenario : Scenario) (noted : Noted) (nodes : Nodes) (n : NodeId) (call : steps.Call) → MayStand (Own n call)
    → NotesStand scenario noted nodes → Holds (λ (new : Stepped Nodes). NotesStand scenario noted new.state) (node_called nodes n (nodes.node n) call)
called_stands scenario noted nodes n call w s = by (nodes.node n) refl
  where
    core : (part : LabelData) → nodes.node n ≡ CoreNode part → (o : Option label_steps.Call)
        → Holds (λ (new : Stepped Nodes). NotesStand scenario noted new.state) (core_called nodes n part o)
    core part e None = s
    core part e (Some own) =
        holds_then (λ (new : settling.Stepped). ⊤) (λ (new : Stepped Nodes). NotesStand scenario noted new.state)
        (label_step (label_place_of nodes n) nodes.clock part own) _
        (holds_from (λ (new : settling.Stepped). ⊤) (label_step (label_place_of nodes n) nodes.clock part own) (λ new is. tt))
        (λ new p. same_notes scenario noted nodes n (CoreNode new.part) s (λ kind. subst IsEdgeNode e kind)
        (ap (λ (state : NodeState). (control_of state).notes) (sym e)))

    by : (state : NodeState) → nodes.node n ≡ state
        → Holds (λ (new : Stepped Nodes). NotesStand scenario noted new.state) (node_called nodes n state call)
    by (Edge edge) e =
        holds_then (λ (new : EdgeStepped). new.edge.control ≡ control_step (place_of nodes n) nodes.clock edge.control call)
        (λ (new : Stepped Nodes). NotesStand scenario noted new.state) (edge_step (place_of nodes n) nodes.clock edge call) _
        (edge_control (place_of nodes n) nodes.clock edge call)
        (λ new c. same_notes scenario noted nodes n (Edge new.edge) s (λ kind. tt)
        (ap (λ (x : Control). x.notes) c ∙ step_notes (place_of nodes n) nodes.clock n edge.control call w
        ∙ ap (λ (state : NodeState). (control_of state).notes) (sym e)))
    by (CoreNode part) e = core part e (own_label_call call)

step : (scenario : Scenario) (noted : Noted) (nodes : Nodes) (call : NodeCall) → MayStand call → NotesStand scenario noted nodes
    → Holds (λ (new : Stepped Nodes). NotesStand scenario noted new.state) (nodes_called call nodes)
step scenario noted nodes (Own n call) w s = called_stands scenario noted nodes n call w s
step scenario noted nodes (Elapse ticks) w s = record { same = s.same; kinds = s.kinds; notes = s.notes }
step scenario noted nodes (Reset n) w s = absurd w
step scenario noted nodes (Price a b cost) w s = record { same = s.same; kinds = s.kinds; notes = s.notes }
step scenario noted nodes (Follow n) w s =
    called_stands scenario noted (following nodes n) n steps.Rerouted tt (record { same = s.same; kinds = s.kinds; notes = s.notes })

may_free : (n : NodeId) (call : steps.Call) → IsOfSession Free n call → MayStand (Own n call)
may_free n (steps.Customer call) h = absurd h
may_free n other h = tt

-- ---- events that leave notes as they are

abbrev Kept : Scenario → Noted → World → Type 0
Kept scenario noted world = NotesStand scenario noted world.network.state

other_event : (scenario : Scenario) (noted : Noted) (world : World) (event : Event)
    → EventMay (NotesStand scenario noted) Free (λ nodes f. all_fit (sessions nodes.scenario)) MayStand may_free (step scenario noted) event
    → Kept scenario noted world → AllRest world.network
    → Leads Any (Kept scenario noted) (done world event)
other_event scenario noted world event w s r =
    leads_as Any _ (Kept scenario noted) (λ new k. k.nodes) (done world event)
    (event_holds (NotesStand scenario noted) Free (λ nodes f. all_fit (sessions nodes.scenario)) MayStand may_free (step scenario noted) world event w
    (record { nodes = s; rests = r }))

message_leaves : (n : NodeId) (o : Option Given) → MayFor MayStand n (message_call o)
message_leaves n None = tt
message_leaves n (Some given) = λ old. refl

-- ---- events that change notes

-- what the events tell after one more
abbrev noted_then : Scenario → Event → Noted → Noted
noted_then scenario event noted note = noted_by scenario note.iface note.source note.group event (noted note)

-- both are one note where both are one flow at one interface
one_flow : (note other : Note) → is_flow_at note.iface note.source note.group other.iface other.source other.group ≡ eq_by_cmp note_cmp note other
one_flow note other = both_ways (is_flow_at note.iface note.source note.group other.iface other.source other.group) (eq_by_cmp note_cmp note other)
    (λ t.
    let p = and_parts ((note.iface.0 == other.iface.0) && same_addr note.source other.source) (same_addr note.group other.group) t in
    let q = and_parts (note.iface.0 == other.iface.0) (same_addr note.source other.source) p.0 in
    let iface : note.iface.0 ≡ other.iface.0 = eqb-true note.iface.0 other.iface.0 q.0 in
    let source : note.source ≡ other.source = same_addr_equal note.source other.source q.1 in
    let group : note.group ≡ other.group = same_addr_equal note.group other.group p.1 in
    ties note_cmp note_total note other (λ i. record { iface = record { 0 = iface i }; source = source i; group = group i }))
    (λ t.
    let one : note ≡ other = note_exact note other ((Equal-is (note_cmp note other)).0 t) in
    ap (λ (x : Note). is_flow_at note.iface note.source note.group x.iface x.source x.group) (sym one)
    ∙ and_from ((note.iface.0 == note.iface.0) && same_addr note.source note.source) (same_addr note.group note.group)
    (and_from (note.iface.0 == note.iface.0) (same_addr note.source note.source) (eq-eqb note.iface.0 note.iface.0 refl)
    (same_addr_equiv.refl note.source)) (same_addr_equiv.refl note.group))

-- a flow at an interface of another edge is another one
other_flow : (scenario : Scenario) (note : Note) (iface : IfaceId) (source group : Addr) → (note.iface ≡ iface → ⊥)
    → is_flow_at note.iface note.source note.group iface source group ≡ false
other_flow scenario note iface source group ne =
    false_from_ne_true (is_flow_at note.iface note.source note.group iface source group) (λ t.
    let p = and_parts ((note.iface.0 == iface.0) && same_addr note.source source) (same_addr note.group group) t in
    let number : note.iface.0 ≡ iface.0 = eqb-true note.iface.0 iface.0 (and_parts (note.iface.0 == iface.0) (same_addr note.source source) p.0).0 in
    ne (λ i. record { 0 = number i }))

apart : (scenario : Scenario) (note : Note) (n m : NodeId) (iface : IfaceId) → edge_of scenario note.iface ≡ Some n → edge_of scenario iface ≡ Some m
    → (n.0 == m.0) ≡ false → note.iface ≡ iface → ⊥
apart scenario note n m iface found at f one =
    let same : n ≡ m = same_Some n m (sym found ∙ ap (edge_of scenario) one ∙ at) in
    true≢false (sym (eq-eqb n.0 m.0 (ap (λ (x : NodeId). x.0) same)) ∙ f)

-- A call at an edge that tells of one flow at one of its interfaces: what is told changes there alone, as the notes of the edge do.
module _ (scenario : Scenario) (rules : Rules scenario) (noted : Noted) (iface : IfaceId) (source group : Addr) (call : steps.CustomerCall)
    (change : Bool → Bool → Bool) (still : (b : Bool) → change b false ≡ b)
    (changes : (place : EdgePlace) (now : ℕ) (old : Control) (note : Note)
    → change (sets.contains old.notes note) (eq_by_cmp note_cmp note (record { iface = iface; source = source; group = group }))
    ≡ sets.contains (control_step place now old (steps.Customer call)).notes note) where
  abbrev new_noted : Noted
  new_noted note = change (noted note) (is_flow_at note.iface note.source note.group iface source group)

  node_stands : (nodes : Nodes) (m : NodeId) → edge_of scenario iface ≡ Some m → NotesStand scenario noted nodes
      → Holds (λ (new : Stepped Nodes). NotesStand scenario new_noted new.state) (node_called nodes m (nodes.node m) (steps.Customer call))
  node_stands nodes m at s = by (nodes.node m) refl (s.kinds m (iface_edge scenario rules iface m at))
    where
      by : (state : NodeState) → nodes.node m ≡ state → IsEdgeNode state
          → Holds (λ (new : Stepped Nodes). NotesStand scenario new_noted new.state) (node_called nodes m state (steps.Customer call))
      by (CoreNode part) e kind = absurd kind
      by (Edge edge) e kind =
          holds_then (λ (new : EdgeStepped). new.edge.control ≡ control_step (place_of nodes m) nodes.clock edge.control (steps.Customer call))
          (λ (new : Stepped Nodes). NotesStand scenario new_noted new.state) (edge_step (place_of nodes m) nodes.clock edge (steps.Customer call)) _
          (edge_control (place_of nodes m) nodes.clock edge (steps.Customer call))
          (λ new is. one_stands scenario noted new_noted nodes m (Edge new.edge) s (λ k. tt)
          (λ note n found t.
          (λ i. change ((s.notes note n found ∙ ap (λ (x : NodeId). has (nodes.node x) note) (node_equal n m t)
          ∙ ap (λ (state : NodeState). has state note) e) i) (one_flow note (record { iface = iface; source = source; group = group }) i))
          ∙ changes (place_of nodes m) nodes.clock edge.control note
          ∙ ap (λ (x : Control). sets.contains x.notes note) (sym is))
          (λ note n found f. ap (change (noted note)) (other_flow scenario note iface source group (apart scenario note n m iface found at f))
          ∙ still (noted note)))

  flow_stands : (world : World) → Kept scenario noted world
      → Leads Any (Kept scenario new_noted) (at_edge (edge_of (scenario_of world) iface) call world)
  flow_stands world s = by (edge_of (scenario_of world) iface) (ap (λ (x : Scenario). edge_of x iface) (sym s.same))
    where
      by : (o : Option NodeId) → edge_of scenario iface ≡ o → Leads Any (Kept scenario new_noted) (at_edge o call world)
      by None e = (
        tt,
        record {
          same = s.same;
          kinds = s.kinds;
          notes =
              λ note n found. ap (change (noted note)) (other_flow scenario note iface source group
              (λ one. none-some n (sym e ∙ ap (edge_of scenario) (sym one) ∙ found))) ∙ still (noted note) ∙ s.notes note n found;
        },
      )
      by (Some m) e =
          then_leads Any any_lines (Kept scenario new_noted) (Kept scenario new_noted) (one_act world (At m (steps.Customer call))) (row [])
          (one_leads Any any_lines (Kept scenario new_noted) world (At m (steps.Customer call))
          (call_gives (NotesStand scenario new_noted) world m (node_called world.network.state m (world.network.state.node m) (steps.Customer call))
          (node_stands world.network.state m e s)))
          (λ next v. (tt, v))

-- truth values
or_off : (b : Bool) → (b || false) ≡ b
or_off true = refl
or_off false = refl

or_turned : (a b : Bool) → (a || b) ≡ (b || a)
or_turned true true = refl
or_turned true false = refl
or_turned false true = refl
or_turned false false = refl

and_on : (b : Bool) → (b && not false) ≡ b
and_on true = refl
and_on false = refl

and_turned : (a b : Bool) → (a && not b) ≡ (not b && a)
and_turned true true = refl
and_turned true false = refl
and_turned false true = refl
and_turned false false = refl

active_stands : (scenario : Scenario) → Rules scenario → (noted : Noted) (world : World) (iface : IfaceId) (source group : Addr)
    → Kept scenario noted world → Leads Any (Kept scenario (noted_then scenario (events.Customer (customers.Active iface source group)) noted))
    (done world (events.Customer (customers.Active iface source group)))
active_stands scenario rules noted world iface source group s =
    let note : Note = record { iface = iface; source = source; group = group } in
    flow_stands scenario rules noted iface source group (steps.Active iface source group) (λ a b. a || b) or_off
    (λ place now old x. or_turned (sets.contains old.notes x) (eq_by_cmp note_cmp x note) ∙ sym (sets.contains-insert note_total old.notes note x))
    world s

idle_stands : (scenario : Scenario) → Rules scenario → (noted : Noted) (world : World) (iface : IfaceId) (source group : Addr)
    → Kept scenario noted world → Leads Any (Kept scenario (noted_then scenario (events.Customer (customers.Idle iface source group)) noted))
    (done world (events.Customer (customers.Idle iface source group)))
idle_stands scenario rules noted world iface source group s =
    let note : Note = record { iface = iface; source = source; group = group } in
    flow_stands scenario rules noted iface source group (steps.Idle iface source group) (λ a b. a && not b) and_on
    (λ place now old x. and_turned (sets.contains old.notes x) (eq_by_cmp note_cmp x note) ∙ sym (sets.contains-remove note_total old.notes note x))
    world s

-- a restart of an edge ends the notes at its interfaces
restart_stands : (scenario : Scenario) (noted : Noted) (nodes : Nodes) (at : NodeId) → NotesStand scenario noted nodes
    → NotesStand scenario (noted_then scenario (events.Restart at) noted) (with_node nodes at (fresh_node nodes.scenario at))
restart_stands scenario noted nodes at s = record {
  same = s.same;
  kinds = λ n h. cond_both (n.0 == at.0) (fresh_node nodes.scenario at) (nodes.node n) IsEdgeNode (λ t. is_fresh n h t) (λ f. s.kinds n h);
  notes = λ note n found. cond_both (n.0 == at.0) (fresh_node nodes.scenario at) (nodes.node n)
      (λ (state : NodeState). noted_then scenario (events.Restart at) noted note ≡ has state note)
      (λ t. ap (λ (b : Bool). noted note && not b) (of_edge note n found ∙ t) ∙ none_there (noted note) ∙ none_noted note)
      (λ f. ap (λ (b : Bool). noted note && not b) (of_edge note n found ∙ f) ∙ and_on (noted note) ∙ s.notes note n found);
}
  where
    is_fresh : (n : NodeId) → is_edge scenario n ≡ true → (n.0 == at.0) ≡ true → IsEdgeNode (fresh_node nodes.scenario at)
    is_fresh n h t =
        subst (λ (b : Bool). IsEdgeNode (cond b (Edge (edges.fresh nodes.scenario.labels)) (CoreNode (labels.fresh nodes.scenario.labels))))
        (sym (ap (λ (x : Scenario). is_edge x at) s.same ∙ ap (is_edge scenario) (sym (node_equal n at t)) ∙ h)) tt

    none_noted : (note : Note) → false ≡ has (fresh_node nodes.scenario at) note
    none_noted note =
        cond_both (is_edge nodes.scenario at) (Edge (edges.fresh nodes.scenario.labels)) (CoreNode (labels.fresh nodes.scenario.labels))
        (λ (state : NodeState). false ≡ has state note)
        (λ t. sym (sets.contains-empty note_cmp note))
        (λ f. sym (sets.contains-empty note_cmp note))

    of_edge : (note : Note) (n : NodeId) → edge_of scenario note.iface ≡ Some n → is_of_edge scenario at note.iface ≡ (n.0 == at.0)
    of_edge note n found = ap (λ (o : Option NodeId). elim o as (λ _. Bool) [ None ↦ false | Some edge ↦ edge.0 == at.0 ]) found

    none_there : (b : Bool) → (b && not true) ≡ false
    none_there true = refl
    none_there false = refl

event_stands : (scenario : Scenario) → Rules scenario → (noted : Noted) (world : World) → Kept scenario noted world → AllRest world.network
    → (event : Event) → Leads Any (Kept scenario (noted_then scenario event noted)) (done world event)
event_stands scenario rules noted world s r (events.Customer (customers.Active iface source group)) =
    active_stands scenario rules noted world iface source group s
event_stands scenario rules noted world s r (events.Customer (customers.Idle iface source group)) = idle_stands scenario rules noted world iface source group s
event_stands scenario rules noted world s r (events.Restart node) = (tt, restart_stands scenario noted world.network.state node s)
event_stands scenario rules noted world s r events.Settle = other_event scenario noted world events.Settle (λ n. tt) s r
event_stands scenario rules noted world s r (events.Customer (customers.Join iface entry)) =
    other_event scenario noted world (events.Customer (customers.Join iface entry)) (λ n own old. refl) s r
event_stands scenario rules noted world s r (events.Customer (customers.Prune iface entry)) =
    other_event scenario noted world (events.Customer (customers.Prune iface entry)) (λ n own old. refl) s r
event_stands scenario rules noted world s r (events.Customer (customers.Pim iface bytes)) =
    other_event scenario noted world (events.Customer (customers.Pim iface bytes)) (λ n own. message_leaves n (read_at iface bytes)) s r
event_stands scenario rules noted world s r (events.Customer (customers.Select vrf pattern)) =
    other_event scenario noted world (events.Customer (customers.Select vrf pattern)) (λ n own old. refl) s r
event_stands scenario rules noted world s r (events.Cost a b cost) = other_event scenario noted world (events.Cost a b cost) (tt, λ n. tt) s r
event_stands scenario rules noted world s r (events.Customer (customers.Unselect vrf pattern)) =
    other_event scenario noted world (events.Customer (customers.Unselect vrf pattern)) (λ n own old. refl) s r
event_stands scenario rules noted world s r other = other_event scenario noted world other tt s r

-- ---- runs

record Notes (scenario : Scenario) (noted : Noted) (world : World) : Type 0 where
  stands : NotesStand scenario noted world.network.state
  rests : AllRest world.network

abbrev one_after : Scenario → List ℕ → Timed → Noted → Noted
one_after scenario refused timed noted note = noted_after scenario refused note.iface note.source note.group (noted note) timed

stands_as : (scenario : Scenario) (noted other : Noted) (nodes : Nodes) → ((note : Note) → other note ≡ noted note) → NotesStand scenario noted nodes
    → NotesStand scenario other nodes
stands_as scenario noted other nodes h s = record { same = s.same; kinds = s.kinds; notes = λ note n e. h note ∙ s.notes note n e }

accepted_note : (scenario : Scenario) → Rules scenario
    → (refused : List ℕ) (noted : Noted) (old : World) (timed : Timed) (acts : List Happened) (next : World) → is_accepted refused timed ≡ true
    → Notes scenario noted old → done old timed.event ≡ Done acts next → Notes scenario (one_after scenario refused timed noted) next
accepted_note scenario rules refused noted old timed acts next yes_it t e =
    let event : Event = timed.event in
    record {
      stands = stands_as scenario (noted_then scenario event noted) (one_after scenario refused timed noted) next.network.state
          (λ note. ap (λ (b : Bool). cond b (noted_then scenario event noted note) (noted note)) yes_it)
          (subst (Leads Any (Kept scenario (noted_then scenario event noted))) e (event_stands scenario rules noted old t.stands t.rests event)).1;
      rests = (subst (Leads Any (λ (w : World). AllRest w.network)) e (rests_hold old event t.rests)).1;
    }

refused_note : (scenario : Scenario) (refused : List ℕ) (noted : Noted) (old next : World) (timed : Timed) → is_accepted refused timed ≡ false
    → Notes scenario noted old → old ≡ next → Notes scenario (one_after scenario refused timed noted) next
refused_note scenario refused noted old next timed not_it t e =
    subst (Notes scenario (one_after scenario refused timed noted)) e
    (record {
      stands =
          stands_as scenario noted (one_after scenario refused timed noted) old.network.state
          (λ note. ap (λ (b : Bool). cond b (noted_then scenario timed.event noted note) (noted note)) not_it) t.stands;
      rests = t.rests;
    })

one_note : (scenario : Scenario) → Rules scenario
    → (refused : List ℕ) (noted : Noted) (old : World) (timed : Timed) (acts : List Happened) (next : World)
    → is_accepted refused timed ≡ accepts (refusal old timed.event) → Notes scenario noted old → outcome old timed ≡ Done acts next
    → Notes scenario (one_after scenario refused timed noted) next
one_note scenario rules refused noted old timed acts next a t e = by (refusal old timed.event) a e
  where
    by : (o : Option Refusal) → is_accepted refused timed ≡ accepts o
        → (elim o [ None ↦ done old timed.event | Some reason ↦ Done (record { act = None; lines = lines.Refused timed.line reason ∷ [] } ∷ []) old ])
        ≡ Done acts next → Notes scenario (one_after scenario refused timed noted) next
    by None b is = accepted_note scenario rules refused noted old timed acts next b t is
    by (Some reason) b is = refused_note scenario refused noted old next timed b t (let world : old ≡ next = cc in world)

runs_note : (scenario : Scenario) → Rules scenario
    → (refused : List ℕ) (all : List Timed) (noted : Noted) (old : World) (number : ℕ) (trace : List Traced) (new : World)
    → TellsAccepted refused old all → Notes scenario noted old → Runs old number all trace new
    → Notes scenario (λ note. fold (noted_after scenario refused note.iface note.source note.group) (noted note) all) new
runs_note scenario rules refused [] noted old number trace new a t run = subst (Notes scenario noted) (sym run.1) t
runs_note scenario rules refused (timed ∷ more) noted old number trace new a t run =
    runs_note scenario rules refused more (one_after scenario refused timed noted) run.1 (number + 1) run.2 new (a.1 run.0 run.1 run.3)
    (one_note scenario rules refused noted old timed run.0 run.1 a.0 t run.3) run.5

start_notes : (scenario : Scenario) (core : Cores) → Notes scenario (λ note. false) (start scenario core)
start_notes scenario cores = record {
  stands = record {
    same = refl;
    kinds = λ n h. subst (λ (b : Bool). IsEdgeNode (cond b (Edge (edges.fresh scenario.labels)) (CoreNode (labels.fresh scenario.labels)))) (sym h)
        tt;
    notes = λ note n at. cond_both (is_edge scenario n) (Edge (edges.fresh scenario.labels)) (CoreNode (labels.fresh scenario.labels))
        (λ (state : NodeState). false ≡ has state note)
        (λ t. sym (sets.contains-empty note_cmp note))
        (λ f. sym (sets.contains-empty note_cmp note));
  };
  rests = λ over. unfed_rests over.kind;
}

-- After every run the sources that are noted at an interface are those that its edge has noted.
pub notes_told : (core : Cores) (scenario : Scenario) (all : List Timed) (trace : List Traced) (world : World) → Rules scenario → Rises 0 all
    → Runs (start scenario core) 0 all trace world
    → NotesAreTold (record { scenario = scenario; events = all; refused = refused_lines (report_of trace) }) world
notes_told cores scenario all trace world rules rises run iface n source group at =
    let refused = refused_lines (report_of trace) in
    let accepted = tells_accepted all (start scenario cores) 0 trace world 0 [] refused rises (λ line less. refl) refl run in
    let t = runs_note scenario rules refused all (λ note. false) (start scenario cores) 0 trace world accepted (start_notes scenario cores) run in
    t.stands.notes (record { iface = iface; source = source; group = group }) n (ap (λ (x : Scenario). edge_of x iface) (sym t.stands.same) ∙ at)
