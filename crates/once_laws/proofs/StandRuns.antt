-- What interfaces ask for by the events is what the edges keep, after every run.
use Rattle.std.specs.Prelude.{⊤}
use Rattle.std.proofs.Common.{◌≡◌, ℕ, ◌+◌, ◌==◌, ◌||◌, ◌&&◌, not, Bool, true, false, cond, List, [], ◌∷◌, slice_get, option_map, Option, Some, None, refl, sym, ap, subst, ◌∙◌, arith}
use Rattle.std.specs.List.{AllByRecursion, fold}
use Rattle.std.specs.FinMap as maps
use Rattle.std.proofs.lemmas.Bool.{cond_both, true≢false, eqb-true, eq-eqb}
use Rattle.std.proofs.lemmas.Option.{none-some, same_Some}
use Rattle.mv_base.specs.Number.{◌>>?◌}
use Rattle.mv_base.specs.declared.ids.IfaceId.{IfaceId}
use Rattle.mv_base.specs.declared.ids.NodeId.{NodeId}
use Rattle.mvpn_model.specs.Messages.{message_of}
use Rattle.mvpn_model.specs.Past.{Past, is_accepted, ticks_of, is_of_edge, expiry_given, expiry_by, stands_after, standing, is_active_at}
use Rattle.mvpn_model.specs.Report.{refused_lines}
use Rattle.mvpn_model.specs.declared.message.Given.{Given}
use Rattle.mvpn_model.specs.declared.standing.Standing.{Standing}
use Rattle.pim_defs.specs.Asking.{asks_by}
use Rattle.pim_defs.specs.Entries.{entry_cmp}
use Rattle.pim_defs.specs.Expiry.{counts, remaining}
use Rattle.pim_defs.specs.Mention.{mention_of, expiry_after}
use Rattle.pim_defs.specs.declared.expiry.Expiry.{Expiry}
use Rattle.pim_defs.proofs.EntriesLemmas.{get-applied}
use Rattle.mvpn_model.specs.Sessions.{sessions}
use Rattle.mvpn_model.specs.declared.session.Session.{Session}
use Rattle.scenario_defs.specs.Rules.{Rules, Rises}
use Rattle.scenario_defs.specs.Vpn.{edge_of}
use Rattle.scenario_defs.specs.declared.event.Event.{Event}
use Rattle.scenario_defs.specs.declared.event.CustomerEvent.TheVariants as customers
use Rattle.scenario_defs.specs.declared.event.Event.TheVariants as events
use Rattle.scenario_defs.specs.declared.event.JoinEntry.{JoinEntry}
use Rattle.scenario_defs.specs.declared.event.JoinEntry.TheVariants as join_entries
use Rattle.scenario_defs.specs.declared.event.Kind.{Kind}
use Rattle.scenario_defs.specs.declared.event.Timed.{Timed}
use Rattle.scenario_defs.specs.declared.report.Refusal.{Refusal}
use Rattle.scenario_defs.specs.declared.report.ReportLine.{ReportLine}
use Rattle.scenario_defs.specs.declared.report.ReportLine.TheVariants as lines
use Rattle.scenario_defs.specs.declared.scenario.Iface.{Iface}
use Rattle.scenario_defs.specs.declared.scenario.Scenario.{Scenario}
use Rattle.scenario_defs.specs.declared.scenario.Vrf.{Vrf}
use Rattle.scenario_defs.proofs.RuleLemmas.{vrf_rules_at}
use Rattle.label_defs.specs.LabelData as labels
use Rattle.label_defs.proofs.KeyLemmas.{node_equal}
use Rattle.network_defs.specs.session_defs.Octets.{OctetNetwork, with_step}
use Rattle.network_defs.specs.session_defs.System.{Stepped, with_earlier}
use Rattle.network_defs.specs.declared.session_defs.direction.Direction.{Direction}
use Rattle.edge_defs.specs.Edge as edges
use Rattle.edge_defs.specs.Edge.{Control}
use Rattle.network_defs.specs.Costs.{Cores}
use Rattle.edge_defs.specs.Steps as steps
use Rattle.edge_defs.specs.Steps.{CustomerCall}
use Rattle.edge_defs.specs.Steps.{EdgeStepped, edge_step, control_step}
use Rattle.network_defs.specs.Acts.{At, with_network}
use Rattle.network_defs.specs.Events.{Happened, Done, row, one_act, at_edge, done, called}
use Rattle.network_defs.specs.Nodes.{NodeState, Edge, CoreNode, Nodes, is_edge, fresh_node, with_node, place_of}
use Rattle.network_defs.specs.Refusals.{control_of, refusal, call_for, message_call}
use Rattle.network_defs.specs.Run.{Traced, Runs, outcome, report_of}
use Rattle.network_defs.specs.System.{NodeCall, Own, node_called, nodes_called}
use Rattle.network_defs.specs.World.{World, start, scenario_of, clock_of}
use Rattle.delivery_laws.proofs.Accepted.{TellsAccepted, accepts, tells_accepted}
use Rattle.network_laws.proofs.ready_laws.Ends.{Holds}
use Rattle.delivery_laws.proofs.Outcomes.{Leads, Gives, then_leads, one_leads, leads_as}
use Rattle.delivery_laws.proofs.Silent.{any_lines}
use Rattle.rule_laws.proofs.Rows.{IsEdgeNode}
use Rattle.once_laws.specs.Told.{kept_at_edge, AsksAreTold, EntriesAreTold}
use Rattle.once_laws.proofs.Carry.{IsOfSession, AreFit, EventMay, event_holds, MayFor}
use Rattle.once_laws.proofs.Rests.{Rests, unfed_rests}
use Rattle.once_laws.proofs.Stands.{Alike, Told, kept_of, Stands, MayStand, remaining_twice, counts_by, alike_later, alike_after, edge_control, one_stands, step}
use Rattle.network_laws.proofs.ready_laws.Ends.{holds_then}

abbrev pub Any : List ReportLine → Type 0
Any all = ⊤

abbrev pub AllRest : OctetNetwork Nodes → Type 0
AllRest network = (over : Direction) → Rests over.kind (network.stream over)

-- ---- sessions need nothing here

abbrev pub Free : Kind → NodeId → NodeId → Type 0
Free kind a b = ⊤

pub all_fit : (list : List Session) → AllByRecursion (AreFit Free) list
all_fit [] = tt
all_fit (session ∷ more) = ((tt, tt), all_fit more)

may_free : (n : NodeId) (call : steps.Call) → IsOfSession Free n call → MayStand (Own n call)
may_free n (steps.Customer call) h = absurd h
may_free n other h = tt

-- ---- octets at rest, after any event

abbrev AnyNodes : Nodes → Type 0
AnyNodes nodes = ⊤

abbrev AnyCall : NodeCall → Type 0
AnyCall call = ⊤

any_holds : (o : Option (Stepped Nodes)) → Holds (λ (new : Stepped Nodes). AnyNodes new.state) o
any_holds None = tt
any_holds (Some new) = tt

any_for : (n : NodeId) (o : Option CustomerCall) → MayFor AnyCall n o
any_for n None = tt
any_for n (Some call) = tt

any_may : (event : Event) → EventMay AnyNodes Free (λ nodes f. all_fit (sessions nodes.scenario)) AnyCall (λ n call h. tt)
    (λ nodes call w f. any_holds (nodes_called call nodes)) event
any_may (events.Tick count) = tt
any_may (events.Timers node) = tt
any_may events.Settle = λ n. tt
any_may (events.Restart node) = tt
any_may (events.Customer event) = λ n scenario. any_for n (call_for scenario event)
any_may (events.Cost a b cost) = (tt, λ n. tt)
any_may other = tt

pub rests_hold : (world : World) (event : Event) → AllRest world.network → Leads Any (λ new. AllRest new.network) (done world event)
rests_hold world event r =
    leads_as Any _ (λ new. AllRest new.network) (λ new c. c.rests) (done world event)
    (event_holds AnyNodes Free (λ nodes f. all_fit (sessions nodes.scenario)) AnyCall (λ n call h. tt)
    (λ nodes call w f. any_holds (nodes_called call nodes)) world event (any_may event) (record { nodes = tt; rests = r }))

-- ---- events that leave entries as they are

abbrev Kept : Scenario → ℕ → Told → World → Type 0
Kept scenario clock told world = Stands scenario clock told world.network.state

stands_as : (scenario : Scenario) (c d : ℕ) (told other : Told) (nodes : Nodes) → c ≡ d
    → ((iface : IfaceId) (entry : JoinEntry) → Alike c (other iface entry) (told iface entry)) → Stands scenario c told nodes
    → Stands scenario d other nodes
stands_as scenario c d told other nodes e h s =
    subst (λ (x : ℕ). Stands scenario x other nodes) e
    (record { same = s.same; now = s.now; kinds = s.kinds; expiry = λ iface n entry at. h iface entry ∙ s.expiry iface n entry at })

quiet_event : (scenario : Scenario) (c : ℕ) (told : Told) (world : World) (event : Event)
    → EventMay (Stands scenario c told) Free (λ nodes f. all_fit (sessions nodes.scenario)) MayStand may_free (step scenario c told) event
    → Kept scenario c told world → AllRest world.network
    → Leads Any (Kept scenario c told) (done world event)
quiet_event scenario c told world event w s r =
    leads_as Any _ (Kept scenario c told) (λ new k. k.nodes) (done world event)
    (event_holds (Stands scenario c told) Free (λ nodes f. all_fit (sessions nodes.scenario)) MayStand may_free (step scenario c told) world event w
    (record { nodes = s; rests = r }))

-- what the events tell after one more
abbrev told_after : Scenario → ℕ → Event → Told → Told
told_after scenario c event told iface entry = expiry_by scenario iface entry c event (told iface entry)

no_ticks : (scenario : Scenario) (c : ℕ) (told other : Told) (world : World) (event : Event)
    → ((iface : IfaceId) (entry : JoinEntry) → Alike c (other iface entry) (told iface entry)) → Leads Any (Kept scenario c told) (done world event)
    → Leads Any (Kept scenario (c + 0) other) (done world event)
no_ticks scenario c told other world event h l =
    leads_as Any (Kept scenario c told) (Kept scenario (c + 0) other)
    (λ new s. stands_as scenario c (c + 0) told other new.network.state (omega arith) h s) (done world event) l

-- ---- messages

-- the edge of an interface is an edge
pub iface_edge : (scenario : Scenario) → Rules scenario → (iface : IfaceId) (n : NodeId) → edge_of scenario iface ≡ Some n → is_edge scenario n ≡ true
iface_edge scenario rules iface n h = by (slice_get scenario.ifaces iface.0) h
  where
    of_vrf : (v : ℕ) (o : Option Vrf) → slice_get scenario.vrfs v ≡ o → option_map (λ (vrf : Vrf). vrf.edge) o ≡ Some n → is_edge scenario n ≡ true
    of_vrf v None e t = absurd (none-some n t)
    of_vrf v (Some vrf) e t =
        let edge = (vrf_rules_at scenario rules v vrf e).edge in
        ap (is_edge scenario) (sym (same_Some vrf.edge n t))
        ∙ (ap (λ (o : Option _). elim o [ None ↦ false | Some node ↦ node.edge ]) edge.at ∙ edge.edge)

    by : (o : Option Iface) → elim o as (λ _. Option NodeId)
        [ None ↦ None | Some found ↦ option_map (λ (vrf : Vrf). vrf.edge) (slice_get scenario.vrfs found.vrf.0) ] ≡ Some n → is_edge scenario n ≡ true
    by None t = absurd (none-some n t)
    by (Some found) t = of_vrf found.vrf.0 (slice_get scenario.vrfs found.vrf.0) refl t

-- a call at a node
pub call_gives : (P : Nodes → Type 0) (world : World) (m : NodeId) (o : Option (Stepped Nodes)) → Holds (λ (new : Stepped Nodes). P new.state) o
    → Gives Any (λ new. P new.network.state) (with_network world []
    (with_step world.network o >>? λ next. with_earlier next.puts (Some (record { network = next.network; puts = [] }))) m)
call_gives P world m None h = tt
call_gives P world m (Some new) h = (tt, h)

-- what a message tells
abbrev told_given : ℕ → Given → Told → Told
told_given c given told iface entry = expiry_given iface entry c (told iface entry) (Some given)

pim_stands : (scenario : Scenario) → Rules scenario → (c : ℕ) (told : Told) (nodes : Nodes) (m : NodeId) (given : Given)
    → edge_of scenario given.iface ≡ Some m → Stands scenario c told nodes
    → Holds (λ (new : Stepped Nodes). Stands scenario c (told_given c given told) new.state)
    (node_called nodes m (nodes.node m) (steps.Customer (steps.Pim given.iface given.message)))
pim_stands scenario rules c told nodes m given at s = by (nodes.node m) refl (s.kinds m (iface_edge scenario rules given.iface m at))
  where
    call : steps.Call
    call = steps.Customer (steps.Pim given.iface given.message)

    by : (state : NodeState) → nodes.node m ≡ state → IsEdgeNode state
        → Holds (λ (new : Stepped Nodes). Stands scenario c (told_given c given told) new.state)
        (node_called nodes m state (steps.Customer (steps.Pim given.iface given.message)))
    by (CoreNode part) e kind = absurd kind
    by (Edge edge) e kind =
        holds_then (λ (new : EdgeStepped). new.edge.control
        ≡ control_step (place_of nodes m) nodes.clock edge.control (steps.Customer (steps.Pim given.iface given.message)))
        (λ (new : Stepped Nodes). Stands scenario c (told_given c given told) new.state)
        (edge_step (place_of nodes m) nodes.clock edge (steps.Customer (steps.Pim given.iface given.message))) _
        (edge_control (place_of nodes m) nodes.clock edge (steps.Customer (steps.Pim given.iface given.message)))
        (λ new is. one_stands scenario c told (told_given c given told) nodes m (Edge new.edge) s (λ k. tt)
        (λ iface n entry found t. here new.edge.control is iface n entry found t)
        (λ iface n entry found f. away iface n entry found f))
      where
        here : (control : Control) → control ≡ control_step (place_of nodes m) nodes.clock edge.control (steps.Customer (steps.Pim given.iface given.message))
            → (iface : IfaceId) (n : NodeId) (entry : JoinEntry) → edge_of scenario iface ≡ Some n → (n.0 == m.0) ≡ true
            → Alike c (told_given c given told iface entry) (kept_of control iface entry)
        here control is iface n entry found t =
            let old : Option Expiry = kept_of edge.control iface entry in
            let mention = mention_of given.message entry in
            let before : Alike c (told iface entry) old =
            s.expiry iface n entry found ∙ ap (λ (x : NodeId). remaining c (kept_of (control_of (nodes.node x)) iface entry)) (node_equal n m t)
            ∙ ap (λ (state : NodeState). remaining c (kept_of (control_of state) iface entry)) e in
            let both : (b : Bool) → Alike c (cond b (expiry_after entry mention c given.message.holdtime (told iface entry)) (told iface entry))
            (cond b (expiry_after entry mention c given.message.holdtime old) old) =
            λ b. elim b as (λ b. Alike c (cond b (expiry_after entry mention c given.message.holdtime (told iface entry)) (told iface entry))
            (cond b (expiry_after entry mention c given.message.holdtime old) old)) [
              | true ↦ alike_after entry mention c given.message.holdtime (told iface entry) old before
              | false ↦ before
            ] in
            both (iface.0 == given.iface.0)
            ∙ ap (λ (now : ℕ). remaining c (cond (iface.0 == given.iface.0) (expiry_after entry mention now given.message.holdtime old) old))
            (sym s.now)
            ∙ ap (remaining c) (sym (get-applied edge.control.entries given.iface given.message nodes.clock
            (record { iface = iface; entry = entry })))
            ∙ ap (λ (x : Control). remaining c (kept_of x iface entry)) (sym is)

        away : (iface : IfaceId) (n : NodeId) (entry : JoinEntry) → edge_of scenario iface ≡ Some n → (n.0 == m.0) ≡ false
            → Alike c (told_given c given told iface entry) (told iface entry)
        away iface n entry found f = other (iface.0 == given.iface.0) refl
          where
            other : (b : Bool) → (iface.0 == given.iface.0) ≡ b
                → Alike c (cond b (expiry_after entry (mention_of given.message entry) c given.message.holdtime (told iface entry))
                (told iface entry)) (told iface entry)
            other false q = refl
            other true q =
                let one : iface ≡ given.iface = λ i. record { 0 = eqb-true iface.0 given.iface.0 q i } in
                let same : n ≡ m = same_Some n m (sym found ∙ ap (edge_of scenario) one ∙ at) in
                absurd (true≢false (sym (eq-eqb n.0 m.0 (ap (λ (x : NodeId). x.0) same)) ∙ f))

given_stands : (scenario : Scenario) → Rules scenario → (c : ℕ) (told : Told) (world : World) → Kept scenario c told world → (o : Option Given)
    → Leads Any (Kept scenario c (λ iface entry. expiry_given iface entry c (told iface entry) o)) (called (message_call o) world)
given_stands scenario rules c told world s None = (tt, s)
given_stands scenario rules c told world s (Some given) =
    by (edge_of (scenario_of world) given.iface) (ap (λ (x : Scenario). edge_of x given.iface) (sym s.same))
  where
    by : (o : Option NodeId) → edge_of scenario given.iface ≡ o
        → Leads Any (Kept scenario c (told_given c given told)) (at_edge o (steps.Pim given.iface given.message) world)
    by None e = (
      tt,
      record {
        same = s.same;
        now = s.now;
        kinds = s.kinds;
        expiry =
            λ iface n entry at. other iface n entry at (iface.0 == given.iface.0) refl;
      },
    )
      where
        other : (iface : IfaceId) (n : NodeId) (entry : JoinEntry) → edge_of scenario iface ≡ Some n → (b : Bool) → (iface.0 == given.iface.0) ≡ b
            → Alike c (cond b (expiry_after entry (mention_of given.message entry) c given.message.holdtime (told iface entry)) (told iface entry))
            (kept_of (control_of (world.network.state.node n)) iface entry)
        other iface n entry at false q = s.expiry iface n entry at
        other iface n entry at true q =
            (let one : iface ≡ given.iface = λ i. record { 0 = eqb-true iface.0 given.iface.0 q i } in
            absurd (none-some n (sym e ∙ ap (edge_of scenario) (sym one) ∙ at)))
    by (Some m) e =
        then_leads Any any_lines (Kept scenario c (told_given c given told)) (Kept scenario c (told_given c given told))
        (one_act world (At m (steps.Customer (steps.Pim given.iface given.message)))) (row [])
        (one_leads Any any_lines (Kept scenario c (told_given c given told)) world (At m (steps.Customer (steps.Pim given.iface given.message)))
        (call_gives (Stands scenario c (told_given c given told)) world m
        (node_called world.network.state m (world.network.state.node m) (steps.Customer (steps.Pim given.iface given.message)))
        (pim_stands scenario rules c told world.network.state m given e s)))
        (λ next v. (tt, v))

message_event : (scenario : Scenario) → Rules scenario → (c : ℕ) (told : Told) (world : World) (event : Event) → Kept scenario c told world
    → Leads Any (Kept scenario (c + 0) (λ iface entry. expiry_given iface entry c (told iface entry) (message_of scenario event)))
    (called (message_call (message_of (scenario_of world) event)) world)
message_event scenario rules c told world event s =
    leads_as Any (Kept scenario c (λ iface entry. expiry_given iface entry c (told iface entry) (message_of (scenario_of world) event))) _
    (λ new k. stands_as scenario c (c + 0) _ (λ iface entry. expiry_given iface entry c (told iface entry) (message_of scenario event))
    new.network.state (omega arith)
    (λ iface entry. ap (λ (x : Scenario). remaining c (expiry_given iface entry c (told iface entry) (message_of x event))) (sym s.same)) k)
    (called (message_call (message_of (scenario_of world) event)) world) (given_stands scenario rules c told world s (message_of (scenario_of world) event))

-- ---- a restart

restart_stands : (scenario : Scenario) (c : ℕ) (told : Told) (nodes : Nodes) (at : NodeId) → Stands scenario c told nodes
    → Stands scenario (c + 0) (told_after scenario c (events.Restart at) told) (with_node nodes at (fresh_node nodes.scenario at))
restart_stands scenario c told nodes at s =
    subst (λ (x : ℕ). Stands scenario x (told_after scenario c (events.Restart at) told) (with_node nodes at (fresh_node nodes.scenario at)))
    (omega arith)
    (record {
      same = s.same;
      now = s.now;
      kinds = λ n h. cond_both (n.0 == at.0) (fresh_node nodes.scenario at) (nodes.node n) IsEdgeNode (λ t. is_fresh n h t) (λ f. s.kinds n h);
      expiry = λ iface n entry found. cond_both (n.0 == at.0) (fresh_node nodes.scenario at) (nodes.node n)
          (λ (state : NodeState). Alike c (told_after scenario c (events.Restart at) told iface entry) (kept_of (control_of state) iface entry))
          (λ t. ap (remaining c) (is_here iface n entry found (n.0 == at.0) refl t) ∙ ap (remaining c) (none_kept iface entry))
          (λ f. ap (remaining c) (is_away iface n entry found f) ∙ s.expiry iface n entry found);
    })
  where
    is_fresh : (n : NodeId) → is_edge scenario n ≡ true → (n.0 == at.0) ≡ true → IsEdgeNode (fresh_node nodes.scenario at)
    is_fresh n h t =
        subst (λ (b : Bool). IsEdgeNode (cond b (Edge (edges.fresh nodes.scenario.labels)) (CoreNode (labels.fresh nodes.scenario.labels))))
        (sym (ap (λ (x : Scenario). is_edge x at) s.same ∙ ap (is_edge scenario) (sym (node_equal n at t)) ∙ h)) tt

    none_kept : (iface : IfaceId) (entry : JoinEntry) → None ≡ kept_of (control_of (fresh_node nodes.scenario at)) iface entry
    none_kept iface entry =
        cond_both (is_edge nodes.scenario at) (Edge (edges.fresh nodes.scenario.labels)) (CoreNode (labels.fresh nodes.scenario.labels))
        (λ (state : NodeState). None ≡ kept_of (control_of state) iface entry)
        (λ t. sym (maps.get-empty entry_cmp (record { iface = iface; entry = entry })))
        (λ f. sym (maps.get-empty entry_cmp (record { iface = iface; entry = entry })))

    of_edge : (iface : IfaceId) (n : NodeId) → edge_of scenario iface ≡ Some n → is_of_edge scenario at iface ≡ (n.0 == at.0)
    of_edge iface n found = ap (λ (o : Option NodeId). elim o as (λ _. Bool) [ None ↦ false | Some edge ↦ edge.0 == at.0 ]) found

    is_here : (iface : IfaceId) (n : NodeId) (entry : JoinEntry) → edge_of scenario iface ≡ Some n → (b : Bool) → (n.0 == at.0) ≡ b
        → (n.0 == at.0) ≡ true → told_after scenario c (events.Restart at) told iface entry ≡ None
    is_here iface n entry found b q t = ap (λ (x : Bool). cond x None (told iface entry)) (of_edge iface n found ∙ t)

    is_away : (iface : IfaceId) (n : NodeId) (entry : JoinEntry) → edge_of scenario iface ≡ Some n → (n.0 == at.0) ≡ false
        → told_after scenario c (events.Restart at) told iface entry ≡ told iface entry
    is_away iface n entry found f = ap (λ (x : Bool). cond x None (told iface entry)) (of_edge iface n found ∙ f)

-- ---- events

timers_told : (scenario : Scenario) (c : ℕ) (told : Told) (node : NodeId) (iface : IfaceId) (entry : JoinEntry)
    → Alike c (told_after scenario c (events.Timers node) told iface entry) (told iface entry)
timers_told scenario c told node iface entry = by (is_of_edge scenario node iface)
  where
    by : (b : Bool) → Alike c (cond b (remaining c (told iface entry)) (told iface entry)) (told iface entry)
    by true = remaining_twice c (told iface entry)
    by false = refl

event_stands : (scenario : Scenario) → Rules scenario → (c : ℕ) (told : Told) (world : World) → Kept scenario c told world → AllRest world.network
    → (event : Event) → Leads Any (Kept scenario (c + ticks_of event) (told_after scenario c event told)) (done world event)
event_stands scenario rules c told world s r (events.Tick count) = (
  tt,
  record {
    same = s.same;
    now = ap (λ (x : ℕ). x + count) s.now;
    kinds = s.kinds;
    expiry =
        λ iface n entry at. alike_later c count (told iface entry) (kept_of (control_of (world.network.state.node n)) iface entry)
        (s.expiry iface n entry at);
  },
)
event_stands scenario rules c told world s r (events.Restart node) = (tt, restart_stands scenario c told world.network.state node s)
event_stands scenario rules c told world s r (events.Customer (customers.Join iface entry)) =
    message_event scenario rules c told world (events.Customer (customers.Join iface entry)) s
event_stands scenario rules c told world s r (events.Customer (customers.Prune iface entry)) =
    message_event scenario rules c told world (events.Customer (customers.Prune iface entry)) s
event_stands scenario rules c told world s r (events.Customer (customers.Pim iface bytes)) =
    message_event scenario rules c told world (events.Customer (customers.Pim iface bytes)) s
event_stands scenario rules c told world s r (events.Timers node) =
    no_ticks scenario c told (told_after scenario c (events.Timers node) told) world (events.Timers node) (timers_told scenario c told node)
    (quiet_event scenario c told world (events.Timers node) tt s r)
event_stands scenario rules c told world s r events.Settle =
    no_ticks scenario c told (told_after scenario c events.Settle told) world events.Settle (λ i a. remaining_twice c (told i a))
    (quiet_event scenario c told world events.Settle (λ n. tt) s r)
event_stands scenario rules c told world s r (events.Cost a b cost) =
    no_ticks scenario c told told world (events.Cost a b cost) (λ i a. refl)
    (quiet_event scenario c told world (events.Cost a b cost) (tt, λ n. tt) s r)
event_stands scenario rules c told world s r (events.Customer other) =
    no_ticks scenario c told told world (events.Customer other) (λ i a. refl)
    (quiet_event scenario c told world (events.Customer other) (λ n own now old. refl) s r)
event_stands scenario rules c told world s r (events.Move kind from to count) =
    no_ticks scenario c told told world (events.Move kind from to count) (λ i a. refl)
    (quiet_event scenario c told world (events.Move kind from to count) tt s r)
event_stands scenario rules c told world s r (events.Lose kind a b) =
    no_ticks scenario c told told world (events.Lose kind a b) (λ i x. refl) (quiet_event scenario c told world (events.Lose kind a b) tt s r)
event_stands scenario rules c told world s r (events.Notice kind a b) =
    no_ticks scenario c told told world (events.Notice kind a b) (λ i x. refl) (quiet_event scenario c told world (events.Notice kind a b) tt s r)
event_stands scenario rules c told world s r (events.Raise kind a b) =
    no_ticks scenario c told told world (events.Raise kind a b) (λ i x. refl) (quiet_event scenario c told world (events.Raise kind a b) tt s r)
event_stands scenario rules c told world s r (events.Send site source group payload) =
    no_ticks scenario c told told world (events.Send site source group payload) (λ i a. refl)
    (quiet_event scenario c told world (events.Send site source group payload) tt s r)
event_stands scenario rules c told world s r (events.Packet site bytes) =
    no_ticks scenario c told told world (events.Packet site bytes) (λ i a. refl) (quiet_event scenario c told world (events.Packet site bytes) tt s r)
event_stands scenario rules c told world s r (events.Hop from to place) =
    no_ticks scenario c told told world (events.Hop from to place) (λ i a. refl) (quiet_event scenario c told world (events.Hop from to place) tt s r)
event_stands scenario rules c told world s r (events.DropCopy from to place) =
    no_ticks scenario c told told world (events.DropCopy from to place) (λ i a. refl)
    (quiet_event scenario c told world (events.DropCopy from to place) tt s r)
event_stands scenario rules c told world s r events.Heal =
    no_ticks scenario c told told world events.Heal (λ i a. refl) (quiet_event scenario c told world events.Heal tt s r)
event_stands scenario rules c told world s r events.Drain =
    no_ticks scenario c told told world events.Drain (λ i a. refl) (quiet_event scenario c told world events.Drain tt s r)
event_stands scenario rules c told world s r events.State =
    no_ticks scenario c told told world events.State (λ i a. refl) (quiet_event scenario c told world events.State tt s r)

-- ---- runs

abbrev Standings : Type 0
Standings = IfaceId → JoinEntry → Standing

record Tells (scenario : Scenario) (st : Standings) (world : World) : Type 0 where
  clock : ℕ
  stands : Stands scenario clock (λ iface entry. (st iface entry).expiry) world.network.state
  clocks : (iface : IfaceId) (entry : JoinEntry) → (st iface entry).clock ≡ clock
  rests : AllRest world.network

abbrev one_after : Scenario → List ℕ → Timed → Standings → Standings
one_after scenario refused timed st iface entry = stands_after scenario refused iface entry (st iface entry) timed

accepted_tells : (scenario : Scenario) → Rules scenario
    → (refused : List ℕ) (st : Standings) (old : World) (timed : Timed) (acts : List Happened) (next : World) → is_accepted refused timed ≡ true
    → Tells scenario st old → done old timed.event ≡ Done acts next → Tells scenario (one_after scenario refused timed st) next
accepted_tells scenario rules refused st old timed acts next yes_it t e =
    let event : Event = timed.event in
    let new : Stands scenario (t.clock + ticks_of event) (told_after scenario t.clock event (λ iface entry. (st iface entry).expiry))
    next.network.state =
    (subst (Leads Any (Kept scenario (t.clock + ticks_of event) (told_after scenario t.clock event (λ iface entry. (st iface entry).expiry)))) e
    (event_stands scenario rules t.clock (λ iface entry. (st iface entry).expiry) old t.stands t.rests event)).1 in
    let rests : AllRest next.network = (subst (Leads Any (λ (w : World). AllRest w.network)) e (rests_hold old event t.rests)).1 in
    let after : (iface : IfaceId) (entry : JoinEntry)
    → one_after scenario refused timed st iface entry
    ≡ record {
      clock = t.clock + ticks_of event;
      expiry =
          told_after scenario t.clock event (λ iface entry. (st iface entry).expiry) iface entry;
    } = λ iface entry.
    ap (λ (b : Bool). cond b (record {
      clock = (st iface entry).clock + ticks_of event;
      expiry =
          expiry_by scenario iface entry (st iface entry).clock event (st iface entry).expiry;
    }) (st iface entry)) yes_it
    ∙ ap (λ (c : ℕ). record { clock = c + ticks_of event; expiry = expiry_by scenario iface entry c event (st iface entry).expiry })
    (t.clocks iface entry) in
    record {
      clock = t.clock + ticks_of event;
      stands = stands_as scenario (t.clock + ticks_of event) (t.clock + ticks_of event)
          (told_after scenario t.clock event (λ iface entry. (st iface entry).expiry))
          (λ iface entry. (one_after scenario refused timed st iface entry).expiry) next.network.state refl
          (λ iface entry. ap (λ (x : Standing). remaining (t.clock + ticks_of event) x.expiry) (after iface entry)) new;
      clocks = λ iface entry. ap (λ (x : Standing). x.clock) (after iface entry);
      rests = rests;
    }

refused_tells : (scenario : Scenario) (refused : List ℕ) (st : Standings) (old next : World) (timed : Timed) → is_accepted refused timed ≡ false
    → Tells scenario st old → old ≡ next → Tells scenario (one_after scenario refused timed st) next
refused_tells scenario refused st old next timed not_it t e =
    let after : (iface : IfaceId) (entry : JoinEntry) → one_after scenario refused timed st iface entry ≡ st iface entry = λ iface entry.
    ap (λ (b : Bool). cond b (record {
      clock = (st iface entry).clock + ticks_of timed.event;
      expiry =
          expiry_by scenario iface entry (st iface entry).clock timed.event (st iface entry).expiry;
    }) (st iface entry)) not_it in
    subst (Tells scenario (one_after scenario refused timed st)) e
    (record {
      clock = t.clock;
      stands = stands_as scenario t.clock t.clock (λ iface entry. (st iface entry).expiry)
          (λ iface entry. (one_after scenario refused timed st iface entry).expiry) old.network.state refl
          (λ iface entry. ap (λ (x : Standing). remaining t.clock x.expiry) (after iface entry)) t.stands;
      clocks = λ iface entry. ap (λ (x : Standing). x.clock) (after iface entry) ∙ t.clocks iface entry;
      rests = t.rests;
    })

one_tells : (scenario : Scenario) → Rules scenario
    → (refused : List ℕ) (st : Standings) (old : World) (timed : Timed) (acts : List Happened) (next : World)
    → is_accepted refused timed ≡ accepts (refusal old timed.event) → Tells scenario st old → outcome old timed ≡ Done acts next
    → Tells scenario (one_after scenario refused timed st) next
one_tells scenario rules refused st old timed acts next a t e = by (refusal old timed.event) a e
  where
    by : (o : Option Refusal) → is_accepted refused timed ≡ accepts o
        → (elim o [ None ↦ done old timed.event | Some reason ↦ Done (record { act = None; lines = lines.Refused timed.line reason ∷ [] } ∷ []) old ])
        ≡ Done acts next → Tells scenario (one_after scenario refused timed st) next
    by None b is = accepted_tells scenario rules refused st old timed acts next b t is
    by (Some reason) b is = refused_tells scenario refused st old next timed b t (let world : old ≡ next = cc in world)

runs_tell : (scenario : Scenario) → Rules scenario
    → (refused : List ℕ) (all : List Timed) (st : Standings) (old : World) (number : ℕ) (trace : List Traced) (new : World)
    → TellsAccepted refused old all → Tells scenario st old → Runs old number all trace new
    → Tells scenario (λ iface entry. fold (stands_after scenario refused iface entry) (st iface entry) all) new
runs_tell scenario rules refused [] st old number trace new a t run = subst (Tells scenario st) (sym run.1) t
runs_tell scenario rules refused (timed ∷ more) st old number trace new a t run =
    runs_tell scenario rules refused more (one_after scenario refused timed st) run.1 (number + 1) run.2 new (a.1 run.0 run.1 run.3)
    (one_tells scenario rules refused st old timed run.0 run.1 a.0 t run.3) run.5

start_tells : (scenario : Scenario) (cores : Cores) → Tells scenario (λ iface entry. record { clock = 0; expiry = None }) (start scenario cores)
start_tells scenario cores = record {
  clock = 0;
  stands = record {
    same = refl;
    now = refl;
    kinds = λ n h. subst (λ (b : Bool). IsEdgeNode (cond b (Edge (edges.fresh scenario.labels)) (CoreNode (labels.fresh scenario.labels)))) (sym h)
        tt;
    expiry = λ iface n entry at. ap (remaining 0)
        (cond_both (is_edge scenario n) (Edge (edges.fresh scenario.labels)) (CoreNode (labels.fresh scenario.labels))
        (λ (state : NodeState). None ≡ kept_of (control_of state) iface entry)
        (λ t. sym (maps.get-empty entry_cmp (record { iface = iface; entry = entry })))
        (λ f. sym (maps.get-empty entry_cmp (record { iface = iface; entry = entry }))));
  };
  clocks = λ iface entry. refl;
  rests = λ over. unfed_rests over.kind;
}

-- After every run the entries that count are those of the events.
pub entries_told : (cores : Cores) (scenario : Scenario) (all : List Timed) (trace : List Traced) (world : World) → Rules scenario → Rises 0 all
    → Runs (start scenario cores) 0 all trace world
    → EntriesAreTold (record { scenario = scenario; events = all; refused = refused_lines (report_of trace) }) world
entries_told cores scenario all trace world rules rises run =
    let refused = refused_lines (report_of trace) in
    let past : Past = record { scenario = scenario; events = all; refused = refused } in
    let now : ℕ = world.network.state.clock in
    let accepted = tells_accepted all (start scenario cores) 0 trace world 0 [] refused rises (λ line less. refl) refl run in
    let t = runs_tell scenario rules refused all (λ iface entry. record { clock = 0; expiry = None }) (start scenario cores) 0 trace world accepted
    (start_tells scenario cores) run in
    record {
      clock = λ iface entry. t.clocks iface entry ∙ sym t.stands.now;
      counted = λ iface n entry at.
          let told : Option Expiry = (standing past iface entry).expiry in
          let kept : Option Expiry = kept_of (control_of (world.network.state.node n)) iface entry in
          let alike : Alike now told kept =
          subst (λ (c : ℕ). Alike c told kept) (sym t.stands.now)
          (t.stands.expiry iface n entry (ap (λ (x : Scenario). edge_of x iface) (sym t.stands.same) ∙ at)) in
          counts_by now told ∙ ap (counts now) alike ∙ sym (counts_by now kept);
    }

-- ---- what interfaces ask for

asks_by_counts : (c : ℕ) (active : Bool) (x y z u v w : Option Expiry) → counts c x ≡ counts c u → counts c y ≡ counts c v → counts c z ≡ counts c w
    → asks_by c active x y z ≡ asks_by c active u v w
asks_by_counts c active x y z u v w p q r = λ i. p i || (q i && not (r i) && active)

-- After every run interfaces ask by the entries of their edges, given which sources the events note.
pub asks_told : (cores : Cores) (scenario : Scenario) (all : List Timed) (trace : List Traced) (world : World) → Rules scenario → Rises 0 all
    → Runs (start scenario cores) 0 all trace world
    → AsksAreTold (record { scenario = scenario; events = all; refused = refused_lines (report_of trace) }) world
asks_told cores scenario all trace world rules rises run =
    let past : Past = record { scenario = scenario; events = all; refused = refused_lines (report_of trace) } in
    let e = entries_told cores scenario all trace world rules rises run in
    let now : ℕ = clock_of world in
    λ iface n source group at.
    let active : Bool = is_active_at past iface source group in
    let told : JoinEntry → Option Expiry = λ entry. (standing past iface entry).expiry in
    let kept : JoinEntry → Option Expiry = λ entry. kept_at_edge world n iface entry in
    let joined : JoinEntry = join_entries.Source source group in
    let shared : JoinEntry = join_entries.Star group in
    let pruned : JoinEntry = join_entries.Rpt source group in
    ap (λ (c : ℕ). asks_by c active (told joined) (told shared) (told pruned)) (e.clock iface joined)
    ∙ asks_by_counts now active (told joined) (told shared) (told pruned) (kept joined) (kept shared) (kept pruned) (e.counted iface n joined at)
    (e.counted iface n shared at) (e.counted iface n pruned at)
