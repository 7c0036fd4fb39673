-- No edge keeps more than its limits.
use Rattle.std.specs.Prelude.{⊤, Result, Ok, Err}
use Rattle.std.proofs.Common.{Equal, ◌≡◌, ◌≤◌, ◌<◌, ◌⊎◌, ℕ, ◌+◌, ◌-◌, ◌==◌, ◌&&◌, ◌||◌, nat_le, not, Bool, true, false, cond, is_some, inl, inr, List, [], ◌∷◌, map, ◌++◌, length, take, drop, Option, Some, None, refl, sym, ap, subst, ◌∙◌, arith}
use Rattle.std.specs.List.{AllByRecursion, list_any, flat_map, fold}
use Rattle.std.specs.Cmp.{IsTotalOrder, tied_itself}
use Rattle.std.specs.Ordering.{eq_by_cmp, is_eq}
use Rattle.std.specs.declared.cmp.Ordering.{Ordering}
use Rattle.std.specs.FinMap as maps
use Rattle.std.specs.FinMap.{FinMap}
use Rattle.std.specs.FinSet as sets
use Rattle.std.proofs.lemmas.Bool.{or_parts, leb-false, ltb-false}
use Rattle.std.proofs.lemmas.Option.{none-some}
use Rattle.mv_base.specs.Number.{◌>>?◌}
use Rattle.mv_base.specs.declared.ids.NodeId.{NodeId}
use Rattle.mv_base.specs.framing.Feed.{fed}
use Rattle.network_defs.specs.edge_defs.pim_defs.Entries.{applied, are_too_many, entry_cmp, entry_limit}
use Rattle.network_defs.specs.edge_defs.pim_defs.declared.expiry.Expiry.{Expiry}
use Rattle.network_defs.proofs.edge_defs.pim_defs.KeyLemmas.{entry_cmp_total}
use Rattle.network_defs.specs.edge_defs.pim_defs.Expiry.{counts}
use Rattle.scenario_defs.specs.Vpn.{edge_of}
use Rattle.scenario_defs.specs.declared.event.Event.{Event}
use Rattle.scenario_defs.specs.declared.event.CustomerEvent.TheVariants as customers
use Rattle.scenario_defs.specs.declared.event.CustomerEvent.{CustomerEvent}
use Rattle.scenario_defs.specs.declared.event.Event.TheVariants as events
use Rattle.scenario_defs.specs.declared.event.Kind.TheVariants as kinds
use Rattle.scenario_defs.specs.declared.event.Timed.{Timed}
use Rattle.scenario_defs.specs.declared.report.Refusal.{Refusal}
use Rattle.scenario_defs.specs.declared.report.Refusal.TheVariants as refusals
use Rattle.scenario_defs.specs.declared.report.ReportLine.{ReportLine}
use Rattle.scenario_defs.specs.declared.report.ReportLine.TheVariants as lines
use Rattle.scenario_defs.specs.declared.scenario.Scenario.{Scenario}
use Rattle.network_defs.specs.session_defs.Message.{SessionMessage, Bgp, Label, same_direction, front_of}
use Rattle.network_defs.specs.session_defs.Octets as octets
use Rattle.network_defs.specs.session_defs.Octets.{OctetNetwork, OctetAct, with_step, all_taken, moved, octet_act, octet_run}
use Rattle.network_defs.specs.session_defs.System.{Put, Stepped, Behind, with_earlier}
use Rattle.network_defs.specs.declared.session_defs.direction.Direction.{Direction}
use Rattle.label_defs.specs.LabelData.{LabelData}
use Rattle.label_defs.specs.Steps as labels
use Rattle.label_defs.specs.Steps.{label_step}
use Rattle.network_defs.specs.edge_defs.Edge as edges
use Rattle.network_defs.specs.edge_defs.Edge.{Control, EdgeData, Note, VrfPattern, Selected, no_control, note_cmp, pattern_cmp}
use Rattle.network_defs.specs.edge_defs.Steps as steps
use Rattle.network_defs.specs.edge_defs.Steps.{effect, control_step, taken_change, with_update, is_used, selections_run, selection_run}
use Rattle.network_defs.specs.mvpn_model.declared.message.Given.{Given}
use Rattle.network_defs.specs.Acts.{Act, Tick, Timers, Move, Lose, Notice, RaiseFirst, RaiseSecond, Restart, At, Enter, Land, Drop, Tell, SetCost, Reroute, Acted, with_network, at_node, is_of_session, is_at, leads_to, is_from_peer, with_aged, act}
use Rattle.network_defs.specs.Counts.{direction, all_nodes}
use Rattle.network_defs.specs.Nodes.{NodeState, Edge, CoreNode, Nodes, is_edge, fresh_node, with_node, following, place_of, label_place_of}
use Rattle.network_defs.specs.mvpn_model.Refused.{is_ours, octets_refusal}
use Rattle.std.specs.Option.{option_or}
use Rattle.std.specs.Prelude.{if◌then◌else◌}
use Rattle.mv_base.specs.declared.ids.VrfId.{VrfId}
use Rattle.mv_base.specs.declared.pattern.Pattern.{Pattern}
use Rattle.network_defs.specs.mvpn_model.Messages.{message_of}
use Rattle.network_defs.specs.Costs.{Cores}
use Rattle.network_defs.specs.Events.{Happened, Done, one_act, row, cost_acts, at_edge, done, called}
use Rattle.network_defs.specs.Run.{Traced, outcome, Runs}
use Rattle.network_defs.specs.Refusals.{refused_if, are_sessions_full, control_of, control_at, message_refusal, note_refusal, is_selected, selections_at, refusal, note_limit, selection_limit, message_call, call_for, edge_for}
use Rattle.network_defs.specs.System.{NodeCall, Own, Elapse, Reset, Price, Follow, edge_stepped, core_called, node_called, nodes_called, call_of, system}
use Rattle.network_defs.specs.World.{World, scenario_of, clock_of, start}
use Rattle.network_defs.proofs.Kept.{Gives, Comes, then_comes, one_comes, enter_keeps, land_keeps}
use Rattle.network_defs.specs.edge_defs.Place.{EdgePlace, addr_of}
use Rattle.network_defs.specs.edge_defs.Tunnels.{leaves}
use Rattle.bgp_messages.specs.declared.bgp_attributes.update.Message.{Message}
use Rattle.bgp_messages.specs.bgp_update.Table.{changes_of}
use Rattle.network_defs.specs.edge_defs.selective_defs.Selective.{free_number}
use Rattle.label_defs.specs.LabelData as parts
use Rattle.network_defs.specs.node_defs.Puts.{bgp_puts, label_puts}
use Rattle.network_laws.specs.Limits.{IsWithin, AreWithin}
use Rattle.network_defs.proofs.edge_defs.KeyLemmas.{note_total, pattern_total}
use Rattle.network_laws.proofs.SteadyEvents.{IsPlain, IsRoutine, routine_event}

-- ---- lengths of maps

taken_one : (t : Bool) (n k : ℕ) → cond t (n - 1) n ≤ k → n ≤ k + 1
taken_one true n k le = omega (arith, le)
taken_one false n k le = omega (arith, le)

with_key : (t rest : Bool) (has : Bool) → (has ≡ true → (t || rest) ≡ true) → t ≡ false → has ≡ true → rest ≡ true
with_key true rest has h e is = absurd cc
with_key false rest has h e is = h is

without : {X : Type 0} (t : Bool) (o : Option X) → is_some (cond t None o) ≡ true → (t ≡ false) × (is_some o ≡ true)
without true o e = absurd cc
without false o e = (refl, e)

module _ {K X : Type 0} {R : K → K → Ordering} (total : IsTotalOrder R) where
  none_few : (m : FinMap R X) (es : List (K × X)) → maps.entries m ≡ es → ((q : K) → maps.contains_key m q ≡ true → ⊥) → length es ≤ 0
  none_few m [] e none = omega arith
  none_few m (x ∷ es) e none =
      let own : list_any (eq_by_cmp R x.0) (map (λ (own : K × X). own.0) (x ∷ es)) ≡ true =
      ap (λ (r : Ordering). is_eq r || list_any (eq_by_cmp R x.0) (map (λ (own : K × X). own.0) es)) (tied_itself total x.0) in
      absurd (none x.0 (maps.contains_key-keys m x.0 ∙ ap (λ (xs : List (K × X)). list_any (eq_by_cmp R x.0) (map (λ (own : K × X). own.0) xs)) e
      ∙ own))

  -- a map whose keys are among the listed is no longer than the list
  keys_few : (ks : List K) (m : FinMap R X) → ((q : K) → maps.contains_key m q ≡ true → list_any (eq_by_cmp R q) ks ≡ true) → maps.len m ≤ length ks
  keys_few [] m among =
      let le = none_few m (maps.entries m) refl (λ q is. (let x : false ≡ true = among q is in absurd cc)) in
      let same = maps.len-entries m in
      omega (arith, le, same)
  keys_few (k ∷ ks) m among =
      let rest = keys_few ks (maps.remove m k) (λ q is.
      let x = without (eq_by_cmp R q k) (maps.get m q) (sym (ap is_some (maps.get-remove total m k q)) ∙ is) in
      with_key (eq_by_cmp R q k) (list_any (eq_by_cmp R q) ks) (maps.contains_key m q) (among q) x.0 x.1) in
      let le : cond (maps.contains_key m k) (maps.len m - 1) (maps.len m) ≤ length ks =
      (let same = maps.len-remove total m k in omega (arith, rest, same)) in
      let few = taken_one (maps.contains_key m k) (maps.len m) (length ks) le in
      omega (arith, few)

kept_some : {X : Type 0} (t : Bool) (o : Option X) → is_some (cond t o None) ≡ true → is_some o ≡ true
kept_some true o e = e
kept_some false o e = absurd cc

mapped_length : {A B : Type 0} (f : A → B) (xs : List A) → length (map f xs) ≡ length xs
mapped_length f [] = refl
mapped_length f (x ∷ xs) = (let e = mapped_length f xs in omega (arith, e))

retained_few : {K X : Type 0} {R : K → K → Ordering} → IsTotalOrder R → (m : FinMap R X) (p : K → Bool) → ((q x : K) → R q x ≡ Equal → p x ≡ p q)
    → maps.len (maps.retain_keys m p) ≤ maps.len m
retained_few {K} {X} {R} total m p alike =
    let le = keys_few total (maps.keys m) (maps.retain_keys m p)
    (λ q is. sym (maps.contains_key-keys m q) ∙ kept_some (p q) (maps.get m q) (sym (ap is_some (maps.get-retain_keys m p q (alike q))) ∙ is)) in
    let same = mapped_length (λ (e : K × X). e.0) (maps.entries m) in
    let own = maps.len-entries m in
    omega (arith, le, same, own)

inserted_few : (t : Bool) (n : ℕ) → cond t n (n + 1) ≤ n + 1
inserted_few true n = omega arith
inserted_few false n = omega arith

made_few : {K X : Type 0} {R : K → K → Ordering} → IsTotalOrder R → (es : List (K × X)) → maps.len (maps.from_entries {R = R} es) ≤ length es
made_few {K} {X} {R} total [] = omega (arith, maps.len-empty R X)
made_few {K} {X} {R} total (e ∷ es) =
    let rest = made_few total es in
    let one = maps.len-insert total (maps.from_entries {R = R} es) e.0 e.1 in
    let le = inserted_few (maps.contains_key (maps.from_entries {R = R} es) e.0) (maps.len (maps.from_entries {R = R} es)) in
    omega (arith, rest, one, le)

run_few : (delay now : ℕ) (old : FinMap pattern_cmp Selected) → maps.len (selections_run delay now old) ≤ maps.len old
run_few delay now old =
    let run : VrfPattern × Selected → VrfPattern × Selected = λ (entry : VrfPattern × Selected). (entry.0, selection_run delay now entry.1) in
    let es : List (VrfPattern × Selected) = map run (maps.entries old) in
    let le = made_few pattern_total es in
    let same = mapped_length run (maps.entries old) in
    let own = maps.len-entries old in
    omega (arith, le, same, own)

removed_few : (t : Bool) (n : ℕ) → cond t (n - 1) n ≤ n
removed_few true n = omega arith
removed_few false n = omega arith

-- ---- one edge

-- a call for which there is room
abbrev pub HasRoom : ℕ → Control → steps.Call → Type 0
HasRoom now old (steps.Customer (steps.Pim iface message)) = maps.len (applied old.entries iface message now) ≤ entry_limit
HasRoom now old (steps.Customer (steps.Active iface source group)) =
    (sets.contains old.notes (record { iface = iface; source = source; group = group }) ≡ true) ⊎ (sets.len old.notes < note_limit)
HasRoom now old (steps.Customer (steps.Select vrf pattern)) = maps.len old.selections < selection_limit
HasRoom now old other = ⊤

noted_few : (t : Bool) (n : ℕ) → n ≤ note_limit → (t ≡ true) ⊎ (n < note_limit) → cond t n (n + 1) ≤ note_limit
noted_few true n le room = le
noted_few false n le (inl e) = absurd cc
noted_few false n le (inr lt) = omega (arith, lt)

updated_same : (now : ℕ) (peer : NodeId) (message : Message) (old : Control) → IsWithin old → IsWithin (with_update now peer message old)
updated_same now peer message old w = by (maps.get old.peers peer)
  where
    by : (o : Option edges.Taken) → IsWithin (elim o [
      | None ↦ old
      | Some taken ↦ record old { peers = maps.insert old.peers peer (fold (taken_change now) taken (changes_of message)) }
    ])
    by None = w
    by (Some taken) = record { entries = w.entries; notes = w.notes; selections = w.selections }

entries_few : (now : ℕ) (old : Control) (call : steps.CustomerCall) → HasRoom now old (steps.Customer call) → maps.len old.entries ≤ entry_limit
    → maps.len (steps.entries_after now old.entries call) ≤ entry_limit
entries_few now old (steps.Pim iface message) room le = room
entries_few now old other room le = le

-- there is room for a note that a call adds
abbrev NotingRoom : sets.FinSet note_cmp → steps.Noting → Type 0
NotingRoom old (steps.Noted note) = (sets.contains old note ≡ true) ⊎ (sets.len old < note_limit)
NotingRoom old other = ⊤

noting_room : (now : ℕ) (old : Control) (call : steps.CustomerCall) → HasRoom now old (steps.Customer call)
    → NotingRoom old.notes (steps.noting call)
noting_room now old (steps.Active iface source group) room = room
noting_room now old other room = tt

notes_few : (old : sets.FinSet note_cmp) (by : steps.Noting) → NotingRoom old by → sets.len old ≤ note_limit
    → sets.len (steps.with_noting old by) ≤ note_limit
notes_few old (steps.Noted note) room few =
    let le = noted_few (sets.contains old note) (sets.len old) few room in
    let e = sets.len-insert note_total old note in
    omega (arith, e, le)
notes_few old (steps.Unnoted note) room few =
    let le = removed_few (sets.contains old note) (sets.len old) in
    let e = sets.len-remove note_total old note in
    omega (arith, e, le, few)
notes_few old steps.Untouched room few = few

selections_few : (now : ℕ) (old : Control) (call : steps.CustomerCall) → HasRoom now old (steps.Customer call)
    → maps.len old.selections ≤ selection_limit → maps.len (steps.selections_after now old.selections call) ≤ selection_limit
selections_few now old (steps.Select vrf pattern) room few =
    let number : ℕ = free_number (λ number. list_any (is_used vrf number) (maps.entries old.selections)) (maps.len old.selections) 1 in
    let new : Selected = record { number = number; since = now; run = false } in
    let e = maps.len-insert pattern_total old.selections (record { vrf = vrf; pattern = pattern }) new in
    let le = inserted_few (maps.contains_key old.selections (record { vrf = vrf; pattern = pattern })) (maps.len old.selections) in
    omega (arith, e, le, room)
selections_few now old (steps.Unselect vrf pattern) room few =
    let e = maps.len-remove pattern_total old.selections (record { vrf = vrf; pattern = pattern }) in
    let le = removed_few (maps.contains_key old.selections (record { vrf = vrf; pattern = pattern })) (maps.len old.selections) in
    omega (arith, e, le, few)
selections_few now old other room few = few

effect_within : (place : EdgePlace) (now : ℕ) (old : Control) (call : steps.Call) → HasRoom now old call → IsWithin old
    → IsWithin (effect place now old call)
effect_within place now old (steps.Update peer message) room w = updated_same now peer message old w
effect_within place now old (steps.Label neighbour message) room w = w
effect_within place now old (steps.Customer call) room w = record {
  entries = entries_few now old call room w.entries;
  notes = notes_few old.notes (steps.noting call) (noting_room now old call room) w.notes;
  selections = selections_few now old call room w.selections;
}
effect_within place now old (steps.Raised kinds.Bgp peer) room w = record { entries = w.entries; notes = w.notes; selections = w.selections }
effect_within place now old (steps.Raised kinds.Ldp peer) room w = w
effect_within place now old (steps.Noticed kinds.Bgp peer) room w = record { entries = w.entries; notes = w.notes; selections = w.selections }
effect_within place now old (steps.Noticed kinds.Ldp peer) room w = w
effect_within place now old steps.Timers room w =
    let few = w.entries in
    let more = w.selections in
    let kept =
    retained_few entry_cmp_total old.entries (λ at. counts now (maps.get old.entries at))
    (λ q x t. ap (counts now) (maps.get_tied entry_cmp_total old.entries q x t)) in
    let run = run_few place.scenario.delay now old.selections in
    record { entries = omega (arith, few, kept); notes = w.notes; selections = omega (arith, more, run) }
effect_within place now old steps.Rerouted room w = w

control_within : (place : EdgePlace) (now : ℕ) (old : Control) (call : steps.Call) → HasRoom now old call → IsWithin old
    → IsWithin (control_step place now old call)
control_within place now old call room w =
    let own = effect_within place now old call room w in record { entries = own.entries; notes = own.notes; selections = own.selections }

no_control_within : IsWithin no_control
no_control_within = record {
  entries = (let e = maps.len-empty entry_cmp Expiry in omega (arith, e));
  notes = (let e = sets.len-empty note_cmp in omega (arith, e));
  selections = (let e = maps.len-empty pattern_cmp Selected in omega (arith, e));
}

-- ---- all nodes

abbrev NodesWithin : Nodes → Type 0
NodesWithin nodes = (n : NodeId) → IsWithin (control_of (nodes.node n))

abbrev StepWithin : Option (Stepped Nodes) → Type 0
StepWithin None = ⊤
StepWithin (Some new) = NodesWithin new.state

changed_within : (nodes : Nodes) (at : NodeId) (new : NodeState) → NodesWithin nodes → IsWithin (control_of new)
    → NodesWithin (with_node nodes at new)
changed_within nodes at new all own n = elim (n.0 == at.0) as (λ t. IsWithin (control_of (cond t new (nodes.node n)))) [ true ↦ own | false ↦ all n ]

bound_within : {A : Type 0} (o : Option A) (next : A → Option (Stepped Nodes)) → ((x : A) → o ≡ Some x → StepWithin (next x))
    → StepWithin (o >>? next)
bound_within None next h = tt
bound_within (Some x) next h = h x refl

edge_within : (nodes : Nodes) (n : NodeId) (edge : EdgeData) (call : steps.Call) → NodesWithin nodes → IsWithin edge.control
    → HasRoom nodes.clock edge.control call → StepWithin (edge_stepped nodes n edge call)
edge_within nodes n edge call all own room = by (steps.label_row place nodes.clock edge.part calls)
  where
    place : EdgePlace
    place = place_of nodes n

    control : Control
    control = control_step place nodes.clock edge.control call

    calls : List labels.Call
    calls = steps.one_call (steps.own_label_call call) ++ steps.changed_leaves (leaves place edge.control) (leaves place control)

    stepped : Option (List steps.LabelStep) → Option (Stepped Nodes)
    stepped o =
        let rows : Option steps.EdgeStepped =
        (o >>? λ row. Some (record {
          edge = record {
            control = control;
            part = steps.part_after edge.part row;
            raised =
                steps.raised_after nodes.clock edge.raised call;
          };
          row = row;
        })) in
        rows >>? λ new.
        Some (record {
          state = with_node nodes n (Edge new.edge);
          puts = bgp_puts place edge.control new.edge.control
              ++ flat_map (label_puts n (addr_of nodes.scenario n) (label_place_of nodes n) nodes.clock) new.row;
        })

    by : (o : Option (List steps.LabelStep)) → StepWithin (stepped o)
    by None = tt
    by (Some row) =
        changed_within nodes n (Edge (record {
          control = control;
          part = steps.part_after edge.part row;
          raised =
              steps.raised_after nodes.clock edge.raised call;
        })) all (control_within place nodes.clock edge.control call room own)

core_within : (nodes : Nodes) (n : NodeId) (part : LabelData) (o : Option labels.Call) → NodesWithin nodes → StepWithin (core_called nodes n part o)
core_within nodes n part None all = all
core_within nodes n part (Some call) all =
    bound_within (label_step (label_place_of nodes n) nodes.clock part call) _
    (λ new e. changed_within nodes n (CoreNode new.part) all no_control_within)

-- the call has room at the node
abbrev pub RoomAt : ℕ → NodeState → steps.Call → Type 0
RoomAt now node call = HasRoom now (control_of node) call

called_within : (nodes : Nodes) (n : NodeId) (node : NodeState) (call : steps.Call) → NodesWithin nodes → IsWithin (control_of node)
    → RoomAt nodes.clock node call → StepWithin (node_called nodes n node call)
called_within nodes n (Edge edge) call all own room = edge_within nodes n edge call all own room
called_within nodes n (CoreNode part) call all own room = core_within nodes n part (steps.own_label_call call) all

fresh_within : (scenario : Scenario) (n : NodeId) → IsWithin (control_of (fresh_node scenario n))
fresh_within scenario n = by (is_edge scenario n)
  where
    by : (t : Bool) → IsWithin (control_of (cond t (Edge (edges.fresh scenario.labels)) (CoreNode (parts.fresh scenario.labels))))
    by true = no_control_within
    by false = no_control_within

message_room : (now : ℕ) (node : NodeState) (from : NodeId) (message : SessionMessage) → RoomAt now node (call_of from message)
message_room now node from (Bgp message) = tt
message_room now node from (Label message) = tt

-- ---- octets

-- a call with room
abbrev pub CallRoom : Nodes → NodeCall → Type 0
CallRoom nodes (Own n call) = RoomAt nodes.clock (nodes.node n) call
CallRoom nodes other = ⊤

system_within : (call : NodeCall) (nodes : Nodes) → CallRoom nodes call → NodesWithin nodes → StepWithin (nodes_called call nodes)
system_within (Own n call) nodes room all = called_within nodes n (nodes.node n) call all (all n) room
system_within (Elapse ticks) nodes room all = all
system_within (Reset n) nodes room all = changed_within nodes n (fresh_node nodes.scenario n) all (fresh_within nodes.scenario n)
system_within (Price a b cost) nodes room all = all
system_within (Follow n) nodes room all = called_within (following nodes n) n (nodes.node n) steps.Rerouted all (all n) tt

abbrev NetWithin : Option (Behind (OctetNetwork Nodes)) → Type 0
NetWithin None = ⊤
NetWithin (Some new) = NodesWithin new.network.state

step_net : (old : OctetNetwork Nodes) (o : Option (Stepped Nodes)) → StepWithin o → NetWithin (with_step old o)
step_net old None h = tt
step_net old (Some new) h = h

earlier_net : (puts : List Put) (o : Option (Behind (OctetNetwork Nodes))) → NetWithin o → NetWithin (with_earlier puts o)
earlier_net puts None h = tt
earlier_net puts (Some new) h = h

then_net : (o : Option (Behind (OctetNetwork Nodes))) (next : OctetNetwork Nodes → Option (Behind (OctetNetwork Nodes))) → NetWithin o
    → ((network : OctetNetwork Nodes) → NodesWithin network.state → NetWithin (next network))
    → NetWithin (o >>? λ new. with_earlier new.puts (next new.network))
then_net None next h k = tt
then_net (Some new) next h k = earlier_net new.puts (next new.network) (k new.network h)

taken_net : (over : Direction) (messages : List SessionMessage) (old : OctetNetwork Nodes) → NodesWithin old.state
    → NetWithin (all_taken system old over messages)
taken_net over [] old all = all
taken_net over (message ∷ more) old all =
    let node = old.state.node over.to in
    then_net (with_step old (system.taken over message old.state)) (λ network. all_taken system network over more)
    (step_net old (system.taken over message old.state)
    (called_within old.state over.to node (call_of over.from message) all (all over.to) (message_room old.state.clock node over.from message)))
    (λ network k. taken_net over more network k)

-- an act whose call has room in whatever network it is made
abbrev IsRoomy : OctetAct NodeCall → Type 0
IsRoomy (octets.Call call) = (nodes : Nodes) → CallRoom nodes call
IsRoomy other = ⊤

act_net : (one : OctetAct NodeCall) → IsRoomy one → (old : OctetNetwork Nodes) → NodesWithin old.state → NetWithin (octet_act system old one)
act_net (octets.Move over count) is old all =
    let new = fed (front_of over.kind) (old.stream over) (take count (old.transit over)) in
    let left : OctetNetwork Nodes = record old {
      transit = λ other. cond (same_direction other over) (drop count (old.transit over)) (old.transit other);
      stream = λ other. cond (same_direction other over) (record new { waiting = [] }) (old.stream other);
    } in
    elim (old.joined over) as (λ b. NetWithin (cond b (moved system old over count) (Some (record { network = old; puts = [] }))))
    [ true ↦ taken_net over new.waiting left all | false ↦ all ]
act_net (octets.Call call) is old all = step_net old (nodes_called call old.state) (system_within call old.state (is old.state) all)
act_net (octets.Lose hit) is old all = all
act_net (octets.Forget hit) is old all = all
act_net (octets.Join hit) is old all = all

run_net : (acts : List (OctetAct NodeCall)) → AllByRecursion IsRoomy acts → (old : OctetNetwork Nodes) → NodesWithin old.state
    → NetWithin (octet_run system old acts)
run_net [] is old all = all
run_net (one ∷ more) is old all =
    then_net (octet_act system old one) (λ network. octet_run system network more) (act_net one is.0 old all)
    (λ network k. run_net more is.1 network k)

-- ---- acts

with_net : (world : World) (before : List ReportLine) (found : Option (Behind (OctetNetwork Nodes))) (node : NodeId) → NetWithin found
    → Gives AreWithin (with_network world before found node)
with_net world before None node h = tt
with_net world before (Some new) node h = h

at_net : (world : World) (node : NodeId) (before : List ReportLine) (acts : List (OctetAct NodeCall)) → AllByRecursion IsRoomy acts → AreWithin world
    → Gives AreWithin (at_node world node before acts)
at_net world node before acts is all = with_net world before (octet_run system world.network acts) node (run_net acts is world.network all)

aged_net : (found : Result Acted NodeId) → Gives AreWithin found → Gives AreWithin (with_aged found)
aged_net (Err node) h = tt
aged_net (Ok new) h = h

pub act_within : (one : Act) → IsPlain one → (world : World) → AreWithin world → Gives AreWithin (act world one)
act_within (Tick ticks) is world all =
    aged_net (at_node world (record { 0 = 0 }) [] (octets.Call (Elapse ticks) ∷ []))
    (at_net world (record { 0 = 0 }) [] (octets.Call (Elapse ticks) ∷ []) ((λ nodes. tt), tt) all)
act_within (Timers n) is world all = at_net world n [] (octets.Call (Own n steps.Timers) ∷ []) ((λ nodes. tt), tt) all
act_within (Move kind from to count) is world all =
    at_net world to (lines.Take kind from to (take count (world.network.transit (direction kind from to))) ∷ [])
    (octets.Move (direction kind from to) count ∷ []) (tt, tt) all
act_within (Lose kind a b) is world all = at_net world a [] (octets.Lose (is_of_session kind a b) ∷ []) (tt, tt) all
act_within (Notice kind a b) is world all =
    at_net world a [] (octets.Forget (is_from_peer kind a b) ∷ octets.Call (Own a (steps.Noticed kind b)) ∷ []) (tt, ((λ nodes. tt), tt)) all
act_within (RaiseFirst kind a b) is world all =
    at_net world a [] (octets.Join (is_of_session kind a b) ∷ octets.Call (Own a (steps.Raised kind b)) ∷ []) (tt, ((λ nodes. tt), tt)) all
act_within (RaiseSecond kind a b) is world all = at_net world b [] (octets.Call (Own b (steps.Raised kind a)) ∷ []) ((λ nodes. tt), tt) all
act_within (Restart n) is world all =
    at_net world n [] (octets.Lose (is_at n) ∷ octets.Forget (leads_to n) ∷ octets.Call (Reset n) ∷ []) (tt, (tt, ((λ nodes. tt), tt))) all
act_within (Enter vrf) is world all = enter_keeps (λ network. NodesWithin network.state) world vrf all
act_within (Land from to place) is world all = land_keeps (λ network. NodesWithin network.state) world from to place all
act_within (Drop from to place) is world all = all
act_within Tell is world all = all
act_within (SetCost a b cost) is world all = absurd is
act_within (Reroute n) is world all = absurd is
act_within (At n call) is world all = absurd is

-- the acts of the event `cost`
pub price_within : (a b : NodeId) (cost : ℕ) (world : World) → AreWithin world → Gives AreWithin (act world (SetCost a b cost))
price_within a b cost world all = at_net world a [] (octets.Call (Price a b cost) ∷ []) ((λ nodes. tt), tt) all

pub follow_within : (n : NodeId) (world : World) → AreWithin world → Gives AreWithin (act world (Reroute n))
follow_within n world all = at_net world n [] (octets.Call (Follow n) ∷ []) ((λ nodes. tt), tt) all

-- a call of customers for which there is room
pub at_within : (n : NodeId) (call : steps.Call) (world : World) → RoomAt (clock_of world) (world.network.state.node n) call → AreWithin world
    → Gives AreWithin (act world (At n call))
at_within n call world room all =
    with_net world [] (octet_run system world.network (octets.Call (Own n call) ∷ [])) n
    (then_net (octet_act system world.network (octets.Call (Own n call))) (λ network. octet_run system network [])
    (step_net world.network (nodes_called (Own n call) world.network.state) (system_within (Own n call) world.network.state room all))
    (λ network k. k))

-- ---- refusals

refused_not : (b : Bool) (reason : Refusal) → refused_if b reason ≡ None → b ≡ false
refused_not false reason e = refl
refused_not true reason e = absurd (none-some reason (sym e))

first_not : (first other : Option Refusal) → option_or first other ≡ None → (first ≡ None) × (other ≡ None)
first_not None other e = (refl, e)
first_not (Some reason) other e = absurd (none-some reason (sym e))

passed_if : (b : Bool) (reason : Refusal) (other : Option Refusal) → cond b (Some reason) other ≡ None → other ≡ None
passed_if false reason other e = e
passed_if true reason other e = absurd (none-some reason (sym e))

-- ---- events of customers

at_comes : (n : NodeId) (call : steps.Call) (world : World) → RoomAt (clock_of world) (world.network.state.node n) call → AreWithin world
    → Comes AreWithin (row (At n call ∷ []) world)
at_comes n call world room all =
    then_comes AreWithin AreWithin (one_act world (At n call)) (row []) (one_comes AreWithin world (At n call) (at_within n call world room all))
    (λ next k. k)

edge_comes : (o : Option NodeId) (call : steps.CustomerCall) (world : World) → HasRoom (clock_of world) (control_at world o) (steps.Customer call)
    → AreWithin world → Comes AreWithin (at_edge o call world)
edge_comes None call world room all = all
edge_comes (Some n) call world room all = at_comes n (steps.Customer call) world room all

-- there is room for what a customer calls for, where it does
abbrev RoomFor : World → Option steps.CustomerCall → Type 0
RoomFor world None = ⊤
RoomFor world (Some call) = HasRoom (clock_of world) (control_at world (edge_for (scenario_of world) call)) (steps.Customer call)

customer_comes : (world : World) (o : Option steps.CustomerCall) → RoomFor world o → AreWithin world → Comes AreWithin (called o world)
customer_comes world None room all = all
customer_comes world (Some call) room all = edge_comes (edge_for (scenario_of world) call) call world room all

given_room : (world : World) (o : Option Given) → message_refusal world o ≡ None → RoomFor world (message_call o)
given_room world None free = tt
given_room world (Some given) free =
    let edge = edge_of (scenario_of world) given.iface in
    let many = are_too_many (applied (control_at world edge).entries given.iface given.message (clock_of world)) in
    let after_ours =
    passed_if (not (is_ours (scenario_of world) given)) refusals.Ours
    (if are_sessions_full world then Some refusals.Full else refused_if many refusals.Full) free in
    let few = refused_not many refusals.Full (passed_if (are_sessions_full world) refusals.Full (refused_if many refusals.Full) after_ours) in
    ltb-false entry_limit (maps.len (applied (control_at world edge).entries given.iface given.message (clock_of world))) few

noted_room : (t u : Bool) (n : ℕ) → nat_le note_limit n ≡ u → (not t && u) ≡ false → (t ≡ true) ⊎ (n < note_limit)
noted_room true u n is e = inl refl
noted_room false false n is e = inr (let lt = leb-false note_limit n is in omega (arith, lt))
noted_room false true n is e = absurd cc

note_room : (world : World) (note : Note) → note_refusal world note ≡ None → RoomFor world (Some (steps.Active note.iface note.source note.group))
note_room world note free =
    let edge = edge_of (scenario_of world) note.iface in
    let notes = (control_at world edge).notes in
    let full = refused_not (are_sessions_full world || (not (sets.contains notes note) && nat_le note_limit (sets.len notes))) refusals.Full free in
    let parts = or_parts (are_sessions_full world) (not (sets.contains notes note) && nat_le note_limit (sets.len notes)) full in
    noted_room (sets.contains notes note) (nat_le note_limit (sets.len notes)) (sets.len notes) refl parts.1

select_room : (world : World) (vrf : VrfId) (pattern : Pattern) → refusal world (events.Customer (customers.Select vrf pattern)) ≡ None
    → RoomFor world (Some (steps.Select vrf pattern))
select_room world vrf pattern free =
    let full = are_sessions_full world || nat_le selection_limit (selections_at world vrf) in
    let later = (first_not (refused_if (is_selected world vrf pattern) refusals.State) (refused_if full refusals.Full) free).1 in
    leb-false selection_limit (selections_at world vrf)
    (or_parts (are_sessions_full world) (nat_le selection_limit (selections_at world vrf)) (refused_not full refusals.Full later)).1

call_room : (world : World) (event : CustomerEvent) → refusal world (events.Customer event) ≡ None
    → RoomFor world (call_for (scenario_of world) event)
call_room world (customers.Join iface entry) free = given_room world (message_of (scenario_of world) (events.Customer (customers.Join iface entry))) free
call_room world (customers.Prune iface entry) free =
    given_room world (message_of (scenario_of world) (events.Customer (customers.Prune iface entry))) free
call_room world (customers.Pim iface bytes) free =
    given_room world (message_of (scenario_of world) (events.Customer (customers.Pim iface bytes)))
    (first_not (octets_refusal bytes) (message_refusal world (message_of (scenario_of world) (events.Customer (customers.Pim iface bytes)))) free).1
call_room world (customers.Active iface source group) free = note_room world (record { iface = iface; source = source; group = group }) free
call_room world (customers.Select vrf pattern) free = select_room world vrf pattern free
call_room world other free = tt

-- ---- events

row_within : (ns : List NodeId) (world : World) → AreWithin world → Comes AreWithin (row (map (λ n. Reroute n) ns) world)
row_within [] world all = all
row_within (n ∷ more) world all =
    then_comes AreWithin AreWithin (one_act world (Reroute n)) (row (map (λ m. Reroute m) more))
    (one_comes AreWithin world (Reroute n) (follow_within n world all)) (λ next k. row_within more next k)

cost_comes : (world : World) (a b : NodeId) (cost : ℕ) → AreWithin world → Comes AreWithin (row (cost_acts (scenario_of world) a b cost) world)
cost_comes world a b cost all =
    then_comes AreWithin AreWithin (one_act world (SetCost a b cost)) (row (map (λ n. Reroute n) (all_nodes (scenario_of world))))
    (one_comes AreWithin world (SetCost a b cost) (price_within a b cost world all)) (λ next k. row_within (all_nodes (scenario_of world)) next k)

routine : (event : Event) → IsRoutine event → (world : World) → AreWithin world → Comes AreWithin (done world event)
routine event is world all = routine_event AreWithin act_within (λ old datagrams k. k) event is world all

done_within : (world : World) (event : Event) → refusal world event ≡ None → AreWithin world → Comes AreWithin (done world event)
done_within world (events.Customer event) free all = customer_comes world (call_for (scenario_of world) event) (call_room world event free) all
done_within world (events.Cost a b cost) free all = cost_comes world a b cost all
done_within world other free all = routine other tt world all

turned_within : (old : World) → AreWithin old → (timed : Timed) (acts : List Happened) (next : World) → outcome old timed ≡ Done acts next
    → AreWithin next
turned_within old all timed acts next e = subst (Comes AreWithin) e (by (refusal old timed.event) refl)
  where
    by : (o : Option Refusal) → refusal old timed.event ≡ o
        → Comes AreWithin (elim o [
          | None ↦ done old timed.event
          | Some reason ↦
              Done (record { act = None; lines = lines.Refused timed.line reason ∷ [] } ∷ []) old
        ])
    by None free = done_within old timed.event free all
    by (Some reason) is = all

pub runs_within : (all : List Timed) (old : World) (number : ℕ) (trace : List Traced) (new : World) → AreWithin old → Runs old number all trace new
    → AreWithin new
runs_within [] old number trace new k run = subst AreWithin (sym run.1) k
runs_within (timed ∷ more) old number trace new k run =
    runs_within more run.1 (number + 1) run.2 new (turned_within old k timed run.0 run.1 run.3) run.5

pub start_within : (scenario : Scenario) (cores : Cores) → AreWithin (start scenario cores)
start_within scenario cores n = fresh_within scenario n
