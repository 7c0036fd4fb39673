-- The flows of an edge are those of an earlier clock over what it knows now.
use Rattle.std.proofs.Common.{◌≡◌, ℕ, ◌+◌, ◌≤◌, ◌==◌, ◌||◌, Bool, true, false, cond, inl, inr, List, [], ◌∷◌, ◌++◌, map, refl, sym, ap, subst, ◌∙◌, le_refl, le_trans, arith}
use Rattle.std.proofs.lemmas.Bool.{cases_Bool}
use Rattle.std.proofs.lemmas.Bool.Decides.{nat_tests}
use Rattle.std.specs.List.{filter, flat_map}
use Rattle.std.specs.FinMap as maps
use Rattle.mv_base.specs.declared.ids.NodeId.{NodeId}
use Rattle.bgp_messages.specs.declared.bgp_attributes.key.Key.{Key}
use Rattle.scenario_defs.specs.declared.event.Kind.TheVariants as kinds
use Rattle.scenario_defs.specs.declared.scenario.Scenario.{Scenario}
use Rattle.mv_base.specs.declared.table_defs.change.Change.{Change}
use Rattle.edge_defs.proofs.KeyLemmas.{note_total}
use Rattle.edge_defs.specs.Edge.{Control, Note, Taken, no_control}
use Rattle.edge_defs.specs.Flows.{joined_by, noted_flow, active_from, active_flows, possible_flows, is_flow, with_upstream, vrf_flows, flows_at}
use Rattle.edge_defs.specs.Imported.{FlowRoute, found_in}
use Rattle.edge_defs.specs.Originated.{is_iface_of}
use Rattle.edge_defs.specs.Keys.{Value}
use Rattle.edge_defs.specs.Place.{EdgePlace, OwnVrf, own_vrfs}
use Rattle.mv_base.specs.core_walks.Core.{Core}
use Rattle.edge_defs.specs.Steps.{Call, CustomerCall, after_customer, control_step, refreshed}
use Rattle.edge_defs.specs.Steps as steps
use Rattle.edge_words.specs.edge_laws.Acts.{Act, act, run, is_up, stepped, with_core, message_of, left_in_transit, delivered, selects_again, called, with_joined, noticed, raised}
use Rattle.edge_words.specs.edge_laws.Acts as acts
use Rattle.edge_words.specs.edge_laws.Network.{EdgeNetwork, place_of, at_node}
use Rattle.edge_words.specs.calm_laws.Calm.{FlowsStand}
use Rattle.edge_words.proofs.calm_laws.Maps.{empty_entries}
use Rattle.label_defs.specs.Keys.{node_cmp}
use Rattle.label_defs.proofs.KeyLemmas.{node_equal}
use Rattle.label_defs.proofs.MemberLemmas.{none_in_order}
use Rattle.scenario_defs.specs.declared.event.IfaceEntry.{IfaceEntry}
use Rattle.edge_defs.specs.pim_defs.Entries.{entry_cmp}
use Rattle.edge_defs.specs.pim_defs.declared.expiry.Expiry.{Expiry}

-- ---- one edge

abbrev pub Stands : EdgePlace → ℕ → Control → Type 0
Stands place now control = (moment : ℕ) × (moment ≤ now) × (control.flows ≡ flows_at place moment control)

no_flows : {X A : Type 0} (f : X → List A) → ((x : X) → f x ≡ []) → (xs : List X) → flat_map f xs ≡ []
no_flows f none [] = refl
no_flows f none (x ∷ xs) = ap (λ front. front ++ flat_map f xs) (none x) ∙ no_flows f none xs

blank_possible : (place : EdgePlace) (own : OwnVrf) → possible_flows place no_control own ≡ []
blank_possible place own =
    ap (λ (es : List (IfaceEntry × Expiry)). found_in (joined_by place own) (map (λ e. e.0) es) ++ active_flows place no_control own)
    (empty_entries entry_cmp)
    ∙ ap (λ (notes : List Note). map noted_flow (filter (λ note. is_iface_of place.scenario own.id note.iface) notes)
    ++ flat_map (active_from own) (maps.entries (maps.empty {X = Taken} {R = node_cmp}))) (none_in_order note_total)
    ∙ ap (flat_map (active_from own)) (empty_entries {V = Taken} node_cmp)

blank : (place : EdgePlace) → flows_at place 0 no_control ≡ maps.empty
blank place = ap maps.from_entries (no_flows (vrf_flows place 0 no_control)
    (λ own. ap (λ (flows : List FlowRoute). map (with_upstream place no_control own) (filter (is_flow place 0 no_control own) flows))
    (blank_possible place own)) (own_vrfs place))

pub fresh_stands : (place : EdgePlace) (now : ℕ) → Stands place now no_control
fresh_stands place now = (0, omega arith, sym (blank place))

refreshed_stands : (place : EdgePlace) (now : ℕ) (control : Control) → Stands place now (refreshed place now control)
refreshed_stands place now control = (now, le_refl now, refl)

pub later_stands : (place : EdgePlace) (now later : ℕ) (control : Control) → now ≤ later → Stands place now control → Stands place later control
later_stands place now later control le h = (h.0, le_trans h.1 le, h.2)

pub step_stands : (place : EdgePlace) (now : ℕ) (old : Control) (call : Call) → Stands place now old
    → Stands place now (control_step place now old call)
step_stands place now old (steps.Update peer message) h = refreshed_stands place now (steps.effect place now old (steps.Update peer message))
step_stands place now old (steps.Label neighbour message) h = refreshed_stands place now old
step_stands place now old (steps.Customer call) h = by call
  where
    by : (call : CustomerCall) → Stands place now (control_step place now old (steps.Customer call))
    by (steps.Select vrf pattern) = (h.0, h.1, h.2)
    by (steps.Unselect vrf pattern) = (h.0, h.1, h.2)
    by other = refreshed_stands place now (after_customer now old other)
step_stands place now old (steps.Raised kind peer) h = refreshed_stands place now (steps.effect place now old (steps.Raised kind peer))
step_stands place now old (steps.Noticed kind peer) h = refreshed_stands place now (steps.effect place now old (steps.Noticed kind peer))
step_stands place now old steps.Timers h = refreshed_stands place now (steps.effect place now old steps.Timers)
step_stands place now old steps.Rerouted h = refreshed_stands place now old

-- ---- a network

stepped_stands : (network : EdgeNetwork) (at : NodeId) (call : Call) → FlowsStand network → FlowsStand (stepped network at call)
stepped_stands network at call h n =
    elim (n.0 == at.0) as (λ b. n.0 == at.0 ≡ b → Stands (place_of network n) network.clock
    (cond b (control_step (place_of network at) network.clock (network.node at) call) (network.node n))) [
      | true ↦ λ e. subst (λ (m : NodeId). Stands (place_of network m) network.clock
          (control_step (place_of network at) network.clock (network.node at) call)) (sym (node_equal n at e))
          (step_stands (place_of network at) network.clock (network.node at) call (h at))
      | false ↦ λ e. h n
    ] refl

delivered_stands : (network : EdgeNetwork) (a b : NodeId) (same up : Bool) (changes : List (Change Key Value)) → FlowsStand network
    → FlowsStand (delivered network a b same up changes)
delivered_stands network a b false true (change ∷ rest) h =
    stepped_stands (left_in_transit network a b rest) b (steps.Update a (message_of change)) (λ n. h n)
delivered_stands network a b false true [] h = h
delivered_stands network a b false false changes h = h
delivered_stands network a b true up changes h = h

called_stands : (network : EdgeNetwork) (n : NodeId) (call : CustomerCall) (b : Bool) → FlowsStand network → FlowsStand (called network n call b)
called_stands network n call true h = h
called_stands network n call false h = stepped_stands network n (steps.Customer call) h

noticed_stands : (network : EdgeNetwork) (a b : NodeId) (joined up : Bool) → FlowsStand network → FlowsStand (noticed network a b joined up)
noticed_stands network a b false true h = stepped_stands network a (steps.Noticed kinds.Bgp b) h
noticed_stands network a b false false h = h
noticed_stands network a b true up h = h

raised_stands : (network : EdgeNetwork) (a b : NodeId) (same up other : Bool) → FlowsStand network → FlowsStand (raised network a b same up other)
raised_stands network a b false false false h =
    stepped_stands (stepped (with_joined a b network) a (steps.Raised kinds.Bgp b)) b (steps.Raised kinds.Bgp a)
    (stepped_stands (with_joined a b network) a (steps.Raised kinds.Bgp b) (λ n. h n))
raised_stands network a b false false true h = h
raised_stands network a b false true other h = h
raised_stands network a b true up other h = h

restart_stands : (network : EdgeNetwork) (at : NodeId) → FlowsStand network → FlowsStand (act network (acts.Restart at))
restart_stands network at h n = elim (n.0 == at.0) as (λ b. Stands (place_of network n) network.clock (cond b no_control (network.node n))) [
  | true ↦ fresh_stands (place_of network n) network.clock
  | false ↦ h n
]

-- the flows of the edge that knows another core are chosen by it, and those of the others by theirs
rerouted_stands : (network : EdgeNetwork) (at : NodeId) (core : Core) → FlowsStand network → FlowsStand (act network (acts.Reroute at core))
rerouted_stands network at core h n = elim (cases_Bool (n.0 == at.0)) [
  | inl e ↦ subst (λ (m : NodeId). Stands (place_of known m) network.clock (at_node at new network.node m)) (sym (node_equal n at e)) here
  | inr e ↦ subst (λ (b : Bool). Stands (record { scenario = network.scenario; core = cond b core (network.core n); me = n }) network.clock
      (cond b new (network.node n))) (sym e) (h n)
]
  where
    known : EdgeNetwork
    known = with_core at core network

    new : Control
    new = control_step (place_of known at) network.clock (network.node at) steps.Rerouted

    itself : (x : ℕ) → (x == x) ≡ true
    itself x = grind (arith, nat_tests)

    here : Stands (place_of known at) network.clock (at_node at new network.node at)
    here = subst (λ (b : Bool). Stands (place_of known at) network.clock (cond b new (network.node at))) (sym (itself at.0))
        (refreshed_stands (place_of known at) network.clock (network.node at))

act_stands : (network : EdgeNetwork) (what : Act) → FlowsStand network → FlowsStand (act network what)
act_stands network (acts.Deliver a b) h = delivered_stands network a b (a.0 == b.0) (is_up (network.node b) a) (network.direction a b).transit h
act_stands network (acts.Label n neighbour message) h = stepped_stands network n (steps.Label neighbour message) h
act_stands network (acts.LabelRaise n neighbour) h = stepped_stands network n (steps.Raised kinds.Ldp neighbour) h
act_stands network (acts.LabelNotice n neighbour) h = stepped_stands network n (steps.Noticed kinds.Ldp neighbour) h
act_stands network (acts.Customer n call) h = called_stands network n call (selects_again (network.node n) call) h
act_stands network (acts.Lose a b) h = λ n. h n
act_stands network (acts.Notice a b) h =
    noticed_stands network a b ((network.direction a b).joined || (network.direction b a).joined) (is_up (network.node a) b) h
act_stands network (acts.Raise a b) h = raised_stands network a b (a.0 == b.0) (is_up (network.node a) b) (is_up (network.node b) a) h
act_stands network (acts.Restart n) h = restart_stands network n h
act_stands network (acts.Tick ticks) h =
    λ n. later_stands (place_of network n) network.clock (network.clock + ticks) (network.node n) (omega arith) (h n)
act_stands network (acts.Timers n) h = stepped_stands network n steps.Timers h
act_stands network (acts.Reroute n core) h = rerouted_stands network n core h

pub run_stands : (network : EdgeNetwork) (all : List Act) → FlowsStand network → FlowsStand (run network all)
run_stands network [] h = h
run_stands network (first ∷ more) h = run_stands (act network first) more (act_stands network first h)

pub start_stands : (scenario : Scenario) (core : NodeId → Core)
    → FlowsStand (record {
      clock = 0;
      scenario = scenario;
      core = core;
      node = λ n. no_control;
      direction =
          λ a b. record { joined = false; transit = [] };
    })
start_stands scenario core n = fresh_stands (record { scenario = scenario; core = core n; me = n }) 0
