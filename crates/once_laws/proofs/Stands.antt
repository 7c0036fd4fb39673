-- What interfaces ask for by the events is what the edges keep: call by call.
use Rattle.std.specs.Prelude.{⊤, max}
use Rattle.std.proofs.Common.{not, ◌&&◌, ◌≡◌, inl, inr, ℕ, ◌+◌, ◌≤◌, ◌==◌, ◌++◌, nat_lt, Bool, true, false, cond, List, Option, Some, None, refl, sym, ap, subst, ◌∙◌, arith}
use Rattle.std.specs.List.{fold}
use Rattle.std.specs.FinMap as maps
use Rattle.std.proofs.lemmas.Bool.{cases_lt, cond_both, true≢false, lt-ltb, ltb-true}
use Rattle.mv_base.specs.declared.ids.IfaceId.{IfaceId}
use Rattle.mv_base.specs.declared.ids.NodeId.{NodeId}
use Rattle.bgp_messages.specs.declared.bgp_attributes.update.Message.{Message}
use Rattle.bgp_messages.specs.bgp_update.Table.{changes_of}
use Rattle.pim_defs.specs.Entries.{Entries, expiry_at}
use Rattle.pim_defs.specs.Expiry.{is_after, counts, later, extended, remaining}
use Rattle.pim_defs.specs.Mention.{joined_after, rpt_after, expiry_after}
use Rattle.pim_defs.specs.declared.expiry.Expiry.{Expiry}
use Rattle.pim_defs.specs.declared.expiry.Expiry.TheVariants.{At, Never}
use Rattle.pim_defs.specs.declared.mention.Mention.{Mention}
use Rattle.pim_defs.proofs.EntriesLemmas.{get-kept}
use Rattle.scenario_defs.specs.Vpn.{edge_of}
use Rattle.scenario_defs.specs.declared.event.Kind.TheVariants as kinds
use Rattle.scenario_defs.specs.declared.event.JoinEntry.{JoinEntry}
use Rattle.scenario_defs.specs.declared.event.JoinEntry.TheVariants.{Star, Source, Rpt}
use Rattle.scenario_defs.specs.declared.scenario.Scenario.{Scenario}
use Rattle.label_defs.specs.LabelData.{LabelData}
use Rattle.label_defs.specs.Settling as settling
use Rattle.label_defs.specs.Steps as label_steps
use Rattle.label_defs.specs.Steps.{label_step}
use Rattle.label_defs.proofs.KeyLemmas.{node_equal}
use Rattle.network_defs.specs.session_defs.System.{Stepped}
use Rattle.edge_defs.specs.Edge.{Taken, Control, EdgeData}
use Rattle.edge_defs.specs.Place.{EdgePlace}
use Rattle.edge_defs.specs.Steps as steps
use Rattle.edge_defs.specs.Steps.{EdgeStepped, LabelStep, edge_step, own_label_call, changed_leaves, one_call, control_step, label_row, part_after, raised_after}
use Rattle.edge_defs.specs.Tunnels.{leaves}
use Rattle.network_defs.specs.Nodes.{NodeState, Edge, CoreNode, Nodes, is_edge, with_node, place_of, label_place_of, following}
use Rattle.network_defs.specs.Refusals.{control_of}
use Rattle.network_defs.specs.System.{NodeCall, Own, Elapse, Reset, Price, Follow, node_called, core_called, nodes_called}
use Rattle.network_laws.proofs.ready_laws.Ends.{Holds}
use Rattle.rule_laws.proofs.Rows.{IsEdgeNode}
use Rattle.network_laws.proofs.ready_laws.Ends.{holds_from, holds_then}

-- ---- expiries

-- both have ended, or both are one that has not
abbrev pub Alike : ℕ → Option Expiry → Option Expiry → Type 0
Alike c x y = remaining c x ≡ remaining c y

pub remaining_twice : (c : ℕ) (x : Option Expiry) → remaining c (remaining c x) ≡ remaining c x
remaining_twice c x = by (counts c x) refl
  where
    by : (b : Bool) → counts c x ≡ b → remaining c (cond b x None) ≡ cond b x None
    by true e = ap (λ (b : Bool). cond b x None) e
    by false e = refl

pub counts_by : (c : ℕ) (x : Option Expiry) → counts c x ≡ counts c (remaining c x)
counts_by c x = by (counts c x) refl
  where
    by : (b : Bool) → counts c x ≡ b → counts c x ≡ counts c (cond b x None)
    by true e = refl
    by false e = e

-- time passes
ended : (c t : ℕ) (e : Expiry) → is_after e (c + t) ≡ true → is_after e c ≡ true
ended c t (At m) h = (let less = ltb-true (c + t) m h in lt-ltb c m (omega (arith, less)))
ended c t Never h = refl

later_by : (c t : ℕ) (x : Option Expiry) → remaining (c + t) x ≡ remaining (c + t) (remaining c x)
later_by c t None = refl
later_by c t (Some e) = by (is_after e c) refl (is_after e (c + t)) refl
  where
    by : (b : Bool) → is_after e c ≡ b → (d : Bool) → is_after e (c + t) ≡ d → cond d (Some e) None ≡ remaining (c + t) (cond b (Some e) None)
    by true p d q = ap (λ (b : Bool). cond b (Some e) None) (sym q)
    by false p true q = absurd (true≢false (sym (ended c t e q) ∙ p))
    by false p false q = refl

pub alike_later : (c t : ℕ) (x y : Option Expiry) → Alike c x y → Alike (c + t) x y
alike_later c t x y h = later_by c t x ∙ ap (remaining (c + t)) h ∙ sym (later_by c t y)

-- an entry that has ended is extended as none is
extend_by : (c hold : ℕ) (x : Option Expiry) → remaining c (extended c hold x) ≡ remaining c (extended c hold (remaining c x))
extend_by c hold None = refl
extend_by c hold (Some e) = by (is_after e c) refl
  where
    over : (old : Expiry) → is_after old c ≡ false → (b : Bool)
        → remaining c (cond (is_after (later old (cond b Never (At (c + hold)))) c) (Some (later old (cond b Never (At (c + hold))))) (Some old))
        ≡ remaining c (cond (is_after (cond b Never (At (c + hold))) c) (Some (cond b Never (At (c + hold)))) None)
    over Never p b = absurd (true≢false p)
    over (At m) p true = refl
    over (At m) p false =
        let low : m ≤ c = elim (cases_lt c m) [ inl less ↦ absurd (true≢false (sym (lt-ltb c m less) ∙ p)) | inr le ↦ le ] in
        let most : max m (c + hold) ≡ c + hold = omega (arith, low) in
        ap (λ (k : ℕ). remaining c (cond (nat_lt c k) (Some (At k)) (Some (At m)))) most ∙ either (nat_lt c (c + hold)) refl
      where
        either : (d : Bool) → nat_lt c (c + hold) ≡ d
            → remaining c (cond d (Some (At (c + hold))) (Some (At m))) ≡ remaining c (cond d (Some (At (c + hold))) None)
        either true q = refl
        either false q = ap (λ (b : Bool). cond b (Some (At m)) None) p

    by : (b : Bool) → is_after e c ≡ b → remaining c (extended c hold (Some e)) ≡ remaining c (extended c hold (cond b (Some e) None))
    by true p = refl
    by false p = over e p (hold == 65535)

joined_by : (mention : Mention) (c hold : ℕ) (x : Option Expiry)
    → remaining c (joined_after mention c hold x) ≡ remaining c (joined_after mention c hold (remaining c x))
joined_by mention c hold x = by mention.pruned mention.joined
  where
    by : (p j : Bool) → remaining c (cond p None (cond j (extended c hold x) x))
        ≡ remaining c (cond p None (cond j (extended c hold (remaining c x)) (remaining c x)))
    by true j = refl
    by false true = extend_by c hold x
    by false false = sym (remaining_twice c x)

rpt_by : (mention : Mention) (c hold : ℕ) (x : Option Expiry)
    → remaining c (rpt_after mention c hold x) ≡ remaining c (rpt_after mention c hold (remaining c x))
rpt_by mention c hold x = by mention.shared mention.pruned mention.joined
  where
    by : (s p j : Bool) → remaining c (cond p (extended c hold (cond j None (cond (s && not p) None x))) (cond j None (cond (s && not p) None x)))
        ≡ remaining c (cond p (extended c hold (cond j None (cond (s && not p) None (remaining c x))))
        (cond j None (cond (s && not p) None (remaining c x))))
    by true true true = refl
    by false true true = refl
    by true true false = extend_by c hold x
    by false true false = extend_by c hold x
    by true false true = refl
    by false false true = refl
    by true false false = refl
    by false false false = sym (remaining_twice c x)

after_by : (entry : JoinEntry) (mention : Mention) (c hold : ℕ) (x : Option Expiry)
    → remaining c (expiry_after entry mention c hold x) ≡ remaining c (expiry_after entry mention c hold (remaining c x))
after_by (Star group) mention c hold x = joined_by mention c hold x
after_by (Source source group) mention c hold x = joined_by mention c hold x
after_by (Rpt source group) mention c hold x = rpt_by mention c hold x

pub alike_after : (entry : JoinEntry) (mention : Mention) (c hold : ℕ) (x y : Option Expiry) → Alike c x y
    → Alike c (expiry_after entry mention c hold x) (expiry_after entry mention c hold y)
alike_after entry mention c hold x y h =
    after_by entry mention c hold x ∙ ap (λ (z : Option Expiry). remaining c (expiry_after entry mention c hold z)) h
    ∙ sym (after_by entry mention c hold y)

-- ---- nodes

-- what is told of each interface and flow
abbrev pub Told : Type 0
Told = IfaceId → JoinEntry → Option Expiry

abbrev pub kept_of : Control → IfaceId → JoinEntry → Option Expiry
kept_of control iface entry = expiry_at control.entries iface entry

-- The clock is that one, edges are edges, and of each interface its edge keeps what is told of it.
pub record Stands (scenario : Scenario) (clock : ℕ) (told : Told) (nodes : Nodes) : Type 0 where
  pub same : nodes.scenario ≡ scenario
  pub now : nodes.clock ≡ clock
  pub kinds : (n : NodeId) → is_edge scenario n ≡ true → IsEdgeNode (nodes.node n)
  pub expiry : (iface : IfaceId) (n : NodeId) (entry : JoinEntry) → edge_of scenario iface ≡ Some n
      → Alike clock (told iface entry) (kept_of (control_of (nodes.node n)) iface entry)

-- the call of a customer leaves entries as they are
abbrev pub LeavesEntries : steps.CustomerCall → Type 0
LeavesEntries call = (now : ℕ) (old : Entries) → steps.entries_after now old call ≡ old

-- no call of a customer that changes entries, no time, no restart
abbrev pub MayStand : NodeCall → Type 0
MayStand (Own n (steps.Customer call)) = LeavesEntries call
MayStand (Own n call) = ⊤
MayStand (Elapse ticks) = ⊥
MayStand (Reset n) = ⊥
MayStand (Price a b cost) = ⊤
MayStand (Follow n) = ⊤

update_entries : (now : ℕ) (peer : NodeId) (message : Message) (old : Control) → (steps.with_update now peer message old).entries ≡ old.entries
update_entries now peer message old = by (maps.get old.peers peer)
  where
    by : (o : Option Taken) → (elim o as (λ _. Control) [
      | None ↦ old
      | Some taken ↦ record old { peers = maps.insert old.peers peer (fold (steps.taken_change now) taken (changes_of message)) }
    ]).entries ≡ old.entries
    by None = refl
    by (Some taken) = refl

step_kept : (place : EdgePlace) (now : ℕ) (n : NodeId) (old : Control) (call : steps.Call) → MayStand (Own n call)
    → (iface : IfaceId) (entry : JoinEntry) → Alike now (kept_of (control_step place now old call) iface entry) (kept_of old iface entry)
step_kept place now n old (steps.Update peer message) w iface entry =
    ap (λ (e : Entries). remaining now (expiry_at e iface entry)) (update_entries now peer message old)
step_kept place now n old (steps.Label neighbour message) w iface entry = refl
step_kept place now n old (steps.Customer call) w iface entry = ap (λ (e : Entries). remaining now (expiry_at e iface entry)) (w now old.entries)
step_kept place now n old (steps.Raised kinds.Bgp peer) w iface entry = refl
step_kept place now n old (steps.Raised kinds.Ldp peer) w iface entry = refl
step_kept place now n old (steps.Noticed kinds.Bgp peer) w iface entry = refl
step_kept place now n old (steps.Noticed kinds.Ldp peer) w iface entry = refl
step_kept place now n old steps.Rerouted w iface entry = refl
step_kept place now n old steps.Timers w iface entry =
    ap (remaining now) (get-kept old.entries now (record { iface = iface; entry = entry })) ∙ remaining_twice now (kept_of old iface entry)

-- what an edge keeps after a step
pub edge_control : (place : EdgePlace) (now : ℕ) (edge : EdgeData) (call : steps.Call)
    → Holds (λ (new : EdgeStepped). new.edge.control ≡ control_step place now edge.control call) (edge_step place now edge call)
edge_control place now edge call =
    let control : Control = control_step place now edge.control call in
    let row = label_row place now edge.part (one_call (own_label_call call) ++ changed_leaves (leaves place edge.control) (leaves place control)) in
    holds_then (λ (r : List LabelStep). ⊤) (λ (new : EdgeStepped). new.edge.control ≡ control) row
    (λ r. Some (record {
      edge = record { control = control; part = part_after edge.part r; raised = raised_after now edge.raised call };
      row =
          r;
    })) (holds_from (λ (r : List LabelStep). ⊤) row (λ r e. tt)) (λ r t. refl)

-- one node becomes another, which keeps what is told
pub one_stands : (scenario : Scenario) (clock : ℕ) (old told : Told) (nodes : Nodes) (at : NodeId) (new : NodeState) → Stands scenario clock old nodes
    → (IsEdgeNode (nodes.node at) → IsEdgeNode new)
    → ((iface : IfaceId) (n : NodeId) (entry : JoinEntry) → edge_of scenario iface ≡ Some n → (n.0 == at.0) ≡ true
    → Alike clock (told iface entry) (kept_of (control_of new) iface entry))
    → ((iface : IfaceId) (n : NodeId) (entry : JoinEntry) → edge_of scenario iface ≡ Some n → (n.0 == at.0) ≡ false
    → Alike clock (told iface entry) (old iface entry))
    → Stands scenario clock told (with_node nodes at new)
one_stands scenario clock old told nodes at new s kind here away = record {
  same = s.same;
  now = s.now;
  kinds = λ n h. cond_both (n.0 == at.0) new (nodes.node n) IsEdgeNode
      (λ t. kind (subst (λ (m : NodeId). IsEdgeNode (nodes.node m)) (node_equal n at t) (s.kinds n h))) (λ f. s.kinds n h);
  expiry = λ iface n entry e. cond_both (n.0 == at.0) new (nodes.node n)
      (λ (state : NodeState). Alike clock (told iface entry) (kept_of (control_of state) iface entry)) (λ t. here iface n entry e t)
      (λ f. away iface n entry e f ∙ s.expiry iface n entry e);
}

same_kept : (scenario : Scenario) (clock : ℕ) (told : Told) (nodes : Nodes) (at : NodeId) (new : NodeState) → Stands scenario clock told nodes
    → (IsEdgeNode (nodes.node at) → IsEdgeNode new)
    → ((iface : IfaceId) (entry : JoinEntry) → Alike clock (kept_of (control_of new) iface entry) (kept_of (control_of (nodes.node at)) iface entry))
    → Stands scenario clock told (with_node nodes at new)
same_kept scenario clock told nodes at new s kind kept =
    one_stands scenario clock told told nodes at new s kind
    (λ iface n entry e t. s.expiry iface n entry e
    ∙ ap (λ (m : NodeId). remaining clock (kept_of (control_of (nodes.node m)) iface entry)) (node_equal n at t) ∙ sym (kept iface entry))
    (λ iface n entry e f. refl)

called_stands : (scenario : Scenario) (clock : ℕ) (told : Told) (nodes : Nodes) (n : NodeId) (call : steps.Call) → MayStand (Own n call)
    → Stands scenario clock told nodes → Holds (λ (new : Stepped Nodes). Stands scenario clock told new.state)
    (node_called nodes n (nodes.node n) call)
called_stands scenario clock told nodes n call w s = by (nodes.node n) refl
  where
    core : (part : LabelData) → nodes.node n ≡ CoreNode part → (o : Option label_steps.Call)
        → Holds (λ (new : Stepped Nodes). Stands scenario clock told new.state) (core_called nodes n part o)
    core part e None = s
    core part e (Some own) =
        holds_then (λ (new : settling.Stepped). ⊤) (λ (new : Stepped Nodes). Stands scenario clock told new.state)
        (label_step (label_place_of nodes n) nodes.clock part own) _
        (holds_from (λ (new : settling.Stepped). ⊤) (label_step (label_place_of nodes n) nodes.clock part own) (λ new is. tt))
        (λ new p. same_kept scenario clock told nodes n (CoreNode new.part) s (λ kind. subst IsEdgeNode e kind)
        (λ iface entry. ap (λ (state : NodeState). remaining clock (kept_of (control_of state) iface entry)) (sym e)))

    by : (state : NodeState) → nodes.node n ≡ state
        → Holds (λ (new : Stepped Nodes). Stands scenario clock told new.state) (node_called nodes n state call)
    by (Edge edge) e =
        holds_then (λ (new : EdgeStepped). new.edge.control ≡ control_step (place_of nodes n) nodes.clock edge.control call)
        (λ (new : Stepped Nodes). Stands scenario clock told new.state) (edge_step (place_of nodes n) nodes.clock edge call) _
        (edge_control (place_of nodes n) nodes.clock edge call)
        (λ new c. same_kept scenario clock told nodes n (Edge new.edge) s (λ kind. tt) (λ iface entry.
        ap (λ (x : Control). remaining clock (kept_of x iface entry)) c
        ∙ subst (λ (m : ℕ). Alike m (kept_of (control_step (place_of nodes n) nodes.clock edge.control call) iface entry)
        (kept_of edge.control iface entry)) s.now (step_kept (place_of nodes n) nodes.clock n edge.control call w iface entry)
        ∙ ap (λ (state : NodeState). remaining clock (kept_of (control_of state) iface entry)) (sym e)))
    by (CoreNode part) e = core part e (own_label_call call)

pub step : (scenario : Scenario) (clock : ℕ) (told : Told) (nodes : Nodes) (call : NodeCall) → MayStand call → Stands scenario clock told nodes
    → Holds (λ (new : Stepped Nodes). Stands scenario clock told new.state) (nodes_called call nodes)
step scenario clock told nodes (Own n call) w s = called_stands scenario clock told nodes n call w s
step scenario clock told nodes (Elapse ticks) w s = absurd w
step scenario clock told nodes (Reset n) w s = absurd w
step scenario clock told nodes (Price a b cost) w s = record { same = s.same; now = s.now; kinds = s.kinds; expiry = s.expiry }
step scenario clock told nodes (Follow n) w s =
    called_stands scenario clock told (following nodes n) n steps.Rerouted tt
    (record { same = s.same; now = s.now; kinds = s.kinds; expiry = s.expiry })
