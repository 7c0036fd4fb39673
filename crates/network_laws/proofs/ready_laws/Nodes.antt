-- The nodes of a network agree with where the sessions stand, and each step of a node changes both alike.
use Rattle.std.specs.Prelude.{if◌then◌else◌}
use Rattle.std.proofs.Common.{◌≡◌, ℕ, ◌==◌, Bool, true, false, cond, ◌++◌, Option, Some, None, option_map, refl, sym, ap, subst, ◌∙◌}
use Rattle.std.specs.FinMap as maps
use Rattle.mv_base.specs.declared.ids.NodeId.{NodeId}
use Rattle.scenario_defs.specs.declared.event.Kind.TheVariants as kinds
use Rattle.scenario_defs.specs.declared.scenario.Scenario.{Scenario}
use Rattle.network_defs.specs.mvpn_model.declared.readiness.UpEnd.{UpEnd}
use Rattle.label_defs.specs.Keys.{node_cmp}
use Rattle.label_defs.specs.LabelData as labels
use Rattle.label_defs.specs.LabelData.{LabelData}
use Rattle.label_defs.specs.Settling as settling
use Rattle.label_defs.specs.Steps.{Call, label_step}
use Rattle.label_defs.proofs.KeyLemmas.{node_equal}
use Rattle.network_defs.specs.session_defs.Message.{SessionMessage, Bgp, Label}
use Rattle.network_defs.specs.session_defs.System.{Stepped}
use Rattle.network_defs.specs.edge_defs.Edge as edges
use Rattle.network_defs.specs.edge_defs.Edge.{EdgeData}
use Rattle.network_defs.specs.edge_defs.Steps as steps
use Rattle.network_defs.specs.edge_defs.Steps.{EdgeStepped, edge_step, own_label_call, changed_leaves, one_call, control_step, label_row, part_after}
use Rattle.network_defs.specs.edge_defs.Tunnels.{leaves}
use Rattle.network_defs.specs.Nodes.{NodeState, Edge, CoreNode, Nodes, is_edge, fresh_node, with_node, following, place_of, label_place_of, part_of}
use Rattle.network_defs.specs.System.{edge_stepped, core_called, node_called, call_of}
use Rattle.network_defs.specs.mvpn_model.Unready.{SessionsStand}
use Rattle.network_laws.proofs.ready_laws.Ends.{up_end, up_in, Holds, holds_then, end_by, end_with, EndsBehind, step_end, leaves_are, row_end}

-- the end of a node's session over LDP with a peer
abbrev pub end_of : Nodes → NodeId → NodeId → Option UpEnd
end_of nodes n peer = up_in (part_of (nodes.node n)).ends peer

-- ---- one node

-- After a step, only the ends of that node are others, as its label call says.
pub record Called (old : Nodes) (n : NodeId) (own : Option Call) (new : Nodes) : Type 0 where
  pub place : new.scenario ≡ old.scenario
  pub clock : new.clock ≡ old.clock
  pub ends : (m peer : NodeId) → end_of new m peer
      ≡ (if m.0 == n.0 then end_with old.scenario.life old.clock own peer (end_of old m peer) else end_of old m peer)

-- the ends after one node that becomes another
pub node_ends : (nodes : Nodes) (n : NodeId) (new : NodeState) (change : NodeId → Option UpEnd → Option UpEnd)
    → ((peer : NodeId) → up_in (part_of new).ends peer ≡ change peer (end_of nodes n peer))
    → (m peer : NodeId) → end_of (with_node nodes n new) m peer ≡ cond (m.0 == n.0) (change peer (end_of nodes m peer)) (end_of nodes m peer)
node_ends nodes n new change h m peer = by (m.0 == n.0) refl
  where
    by : (t : Bool) → (m.0 == n.0) ≡ t → up_in (part_of (cond t new (nodes.node m))).ends peer
        ≡ cond t (change peer (end_of nodes m peer)) (end_of nodes m peer)
    by true e = h peer ∙ ap (λ x. change peer (end_of nodes x peer)) (sym (node_equal m n e))
    by false e = refl

node_after : (nodes : Nodes) (n : NodeId) (own : Option Call) (new : NodeState)
    → EndsBehind nodes.scenario.life nodes.clock own (part_of (nodes.node n)) (part_of new) → Called nodes n own (with_node nodes n new)
node_after nodes n own new h = record { place = refl; clock = refl; ends = node_ends nodes n new (end_with nodes.scenario.life nodes.clock own) h }

edge_thereafter : (nodes : Nodes) (n : NodeId) (edge : EdgeData) (call : steps.Call) → nodes.node n ≡ Edge edge
    → Holds (λ (new : Stepped Nodes). Called nodes n (own_label_call call) new.state) (edge_stepped nodes n edge call)
edge_thereafter nodes n edge call is =
    let place = place_of nodes n in
    let control = control_step place nodes.clock edge.control call in
    let calls = changed_leaves (leaves place edge.control) (leaves place control) in
    let own = own_label_call call in
    holds_then (λ (new : EdgeStepped). EndsBehind nodes.scenario.life nodes.clock own edge.part new.edge.part)
    (λ (new : Stepped Nodes). Called nodes n own new.state) (edge_step place nodes.clock edge call) _
    (holds_then (λ row. EndsBehind nodes.scenario.life nodes.clock own edge.part (part_after edge.part row))
    (λ (new : EdgeStepped). EndsBehind nodes.scenario.life nodes.clock own edge.part new.edge.part)
    (label_row place nodes.clock edge.part (one_call own ++ calls)) _
    (row_end place nodes.clock edge.part own calls (leaves_are (leaves place edge.control) (leaves place control))) (λ row h. h))
    (λ new h. node_after nodes n own (Edge new.edge)
    (subst (λ (x : NodeState). EndsBehind nodes.scenario.life nodes.clock own (part_of x) new.edge.part) (sym is) h))

same_node : (t : Bool) (old : Option UpEnd) → old ≡ cond t old old
same_node true old = refl
same_node false old = refl

core_after : (nodes : Nodes) (n : NodeId) (part : LabelData) (own : Option Call) → nodes.node n ≡ CoreNode part
    → Holds (λ (new : Stepped Nodes). Called nodes n own new.state) (core_called nodes n part own)
core_after nodes n part None is = record { place = refl; clock = refl; ends = λ m peer. same_node (m.0 == n.0) (end_of nodes m peer) }
core_after nodes n part (Some call) is =
    holds_then (λ (new : settling.Stepped). (peer : NodeId)
    → up_in new.part.ends peer ≡ end_by nodes.scenario.life nodes.clock call peer (up_in part.ends peer))
    (λ (new : Stepped Nodes). Called nodes n (Some call) new.state)
    (label_step (label_place_of nodes n) nodes.clock part call) _
    (step_end (label_place_of nodes n) nodes.clock part call)
    (λ new h. node_after nodes n (Some call) (CoreNode new.part)
    (subst (λ (x : NodeState). EndsBehind nodes.scenario.life nodes.clock (Some call) (part_of x) new.part) (sym is) h))

called_after : (nodes : Nodes) (n : NodeId) (call : steps.Call) (node : NodeState) → nodes.node n ≡ node
    → Holds (λ (new : Stepped Nodes). Called nodes n (own_label_call call) new.state) (node_called nodes n node call)
called_after nodes n call (Edge edge) is = edge_thereafter nodes n edge call is
called_after nodes n call (CoreNode part) is = core_after nodes n part (own_label_call call) is

-- ---- all nodes

-- The nodes are of the scenario, and the ends of their sessions over LDP are those that stand.
pub record NodesStand (scenario : Scenario) (standing : SessionsStand) (nodes : Nodes) : Type 0 where
  pub place : nodes.scenario ≡ scenario
  pub clock : nodes.clock ≡ standing.clock
  pub ends : (n peer : NodeId) → end_of nodes n peer ≡ standing.end kinds.Ldp n peer

-- where the sessions stand after a call of a node
abbrev pub call_stand : Scenario → NodeId → steps.Call → SessionsStand → SessionsStand
call_stand scenario n call old =
    record old {
      end = λ own m peer. if m.0 == n.0 then end_with scenario.life old.clock (own_label_call call) peer (old.end own m peer) else old.end
          own m peer;
    }

pub holds_as : {A : Type 0} (P Q : A → Type 0) (o : Option A) → ((x : A) → P x → Q x) → Holds P o → Holds Q o
holds_as P Q None h p = tt
holds_as P Q (Some x) h p = h x p

pub called_stand : (scenario : Scenario) (standing : SessionsStand) (nodes : Nodes) (n : NodeId) (call : steps.Call)
    → NodesStand scenario standing nodes
    → Holds (λ (new : Stepped Nodes). NodesStand scenario (call_stand scenario n call standing) new.state) (node_called nodes n (nodes.node n) call)
called_stand scenario standing nodes n call s =
    holds_as (λ (new : Stepped Nodes). Called nodes n (own_label_call call) new.state)
    (λ (new : Stepped Nodes). NodesStand scenario (call_stand scenario n call standing) new.state) (node_called nodes n (nodes.node n) call)
    (λ new h.
    record {
      place = h.place ∙ s.place;
      clock = h.clock ∙ s.clock;
      ends = λ m peer. h.ends m peer ∙ (λ i. cond (m.0 == n.0) (end_with (s.place i).life (s.clock i) (own_label_call call) peer (s.ends m peer i))
          (s.ends m peer i));
    }) (called_after nodes n call (nodes.node n) refl)

-- A call that is none of a session, nor of the timers, changes no end.
abbrev pub KeepsEnds : Option Call → Type 0
KeepsEnds own = (life now : ℕ) (peer : NodeId) (old : Option UpEnd) → end_with life now own peer old ≡ old

pub quiet_stand : (scenario : Scenario) (standing : SessionsStand) (nodes : Nodes) (n : NodeId) (call : steps.Call) → KeepsEnds (own_label_call call)
    → NodesStand scenario standing nodes
    → Holds (λ (new : Stepped Nodes). NodesStand scenario standing new.state) (node_called nodes n (nodes.node n) call)
quiet_stand scenario standing nodes n call quiet s =
    holds_as (λ (new : Stepped Nodes). NodesStand scenario (call_stand scenario n call standing) new.state)
    (λ (new : Stepped Nodes). NodesStand scenario standing new.state) (node_called nodes n (nodes.node n) call) (λ new h.
    record {
      place = h.place;
      clock = h.clock;
      ends = λ m peer.
          let old = standing.end kinds.Ldp m peer in
          h.ends m peer ∙ ap (λ (x : Option UpEnd). cond (m.0 == n.0) x old) (quiet scenario.life standing.clock peer old)
          ∙ sym (same_node (m.0 == n.0) old);
    }) (called_stand scenario standing nodes n call s)

message_quiet : (from : NodeId) (message : SessionMessage) → KeepsEnds (own_label_call (call_of from message))
message_quiet from (Bgp message) life now peer old = refl
message_quiet from (Label message) life now peer old = refl

-- A message changes no end.
pub taken_stand : (scenario : Scenario) (standing : SessionsStand) (nodes : Nodes) (n from : NodeId) (message : SessionMessage)
    → NodesStand scenario standing nodes
    → Holds (λ (new : Stepped Nodes). NodesStand scenario standing new.state) (node_called nodes n (nodes.node n) (call_of from message))
taken_stand scenario standing nodes n from message s = quiet_stand scenario standing nodes n (call_of from message) (message_quiet from message) s

-- A node that takes over the present costs changes no end.
pub follow_stand : (scenario : Scenario) (standing : SessionsStand) (nodes : Nodes) (n : NodeId) → NodesStand scenario standing nodes
    → Holds (λ (new : Stepped Nodes). NodesStand scenario standing new.state) (node_called (following nodes n) n (nodes.node n) steps.Rerouted)
follow_stand scenario standing nodes n s =
    quiet_stand scenario standing (following nodes n) n steps.Rerouted (λ life now peer old. refl)
    (record { place = s.place; clock = s.clock; ends = s.ends })

-- where the sessions stand after a node that is set back
abbrev pub reset_stand : NodeId → SessionsStand → SessionsStand
reset_stand n old = record old { end = λ own m peer. if m.0 == n.0 then None else old.end own m peer }

pub fresh_end : (scenario : Scenario) (n peer : NodeId) → up_in (part_of (fresh_node scenario n)).ends peer ≡ None
fresh_end scenario n peer = by (is_edge scenario n)
  where
    by : (t : Bool) → up_in (part_of (if t then Edge (edges.fresh scenario.labels) else CoreNode (labels.fresh scenario.labels))).ends peer ≡ None
    by true = ap (option_map up_end) (maps.get-empty node_cmp peer)
    by false = ap (option_map up_end) (maps.get-empty node_cmp peer)

pub fresh_stand : (scenario : Scenario) (standing : SessionsStand) (nodes : Nodes) (n : NodeId) → NodesStand scenario standing nodes
    → NodesStand scenario (reset_stand n standing) (with_node nodes n (fresh_node nodes.scenario n))
fresh_stand scenario standing nodes n s =
    record {
      place = s.place;
      clock = s.clock;
      ends = λ m peer. node_ends nodes n (fresh_node nodes.scenario n) (λ own old. None) (fresh_end nodes.scenario n) m peer
          ∙ ap (λ (x : Option UpEnd). cond (m.0 == n.0) None x) (s.ends m peer);
    }
