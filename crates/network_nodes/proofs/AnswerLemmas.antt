-- What a call of a node answers, by what its edge or its core node answers.
use Rattle.std.proofs.Common.{◌≡◌, ◌∙◌, refl, sym, ap, subst, ℕ, false, None, Some, Result, Ok, Err, OnOk}
use Rattle.mv_base.specs.declared.ids.NodeId.{NodeId}
use Rattle.mv_base.specs.core_walks.Core.{Core, IsCoreOf}
use Rattle.mv_base.specs.core_walks.Topology.{Topology}
use Rattle.label_defs.specs.Node.{NodePlace, Spent, LacksLabel, LacksMemory}
use Rattle.label_defs.specs.Steps as labels
use Rattle.scenario_defs.specs.declared.event.Kind.{Kind}
use Rattle.scenario_defs.specs.declared.event.Kind.TheVariants as kinds
use Rattle.edge_defs.specs.Place.{EdgePlace}
use Rattle.edge_defs.specs.Steps.{Call, Raised, own_label_call}
use Rattle.edge_core.specs.edge_routes.edge_home.Home as homes
use Rattle.edge_core.specs.edge_routes.edge_home.Home.{Home}
use Rattle.network_defs.specs.node_defs.EdgeState.{EdgeState, called}
use Rattle.edge_core.specs.node_laws.Places.{node_place}
use Rattle.network_defs.specs.Counts.{is_end_up}
use Rattle.network_defs.specs.Nodes.{Nodes, core_at, place_of}
use Rattle.wire_laws.specs.AnyNodes as any
use Rattle.wire_laws.specs.AnyNodes.{AnyNode, core_after, spent_of}
use Rattle.wire_laws.specs.CoreNodes.{CoreState, core_called}
use Rattle.edge_core.specs.Answers as edges
use Rattle.edge_core.specs.Answers.{fault_of, spent_by}
use Rattle.edge_core.specs.Calls.{AnswersCall as EdgeCalls, Fits}
use Rattle.edge_core.specs.State.{IsIn, home_of}
use Rattle.edge_core.specs.View.{EdgeView}
use Rattle.edge_core.specs.declared.fault.EdgeFault.{EdgeFault}
use Rattle.edge_core.specs.declared.fault.EdgeFault.TheVariants as faults
use Rattle.network_nodes.specs.core_node.Answers as cores
use Rattle.network_nodes.specs.core_node.View.{CoreView, state_of}
use Rattle.network_nodes.specs.declared.core_node.fault.CoreFault.{CoreFault}
use Rattle.network_nodes.specs.declared.core_node.fault.CoreFault.TheVariants as core_faults
use Rattle.network_nodes.specs.Answers.{Answers, AnswersCall, NodeStep, Stands, after, fault_as, told_as}
use Rattle.network_nodes.specs.NodeView.{IsNode, MayBePeer, data_in, spent_in}
use Rattle.network_nodes.specs.declared.node.NetworkNode.TheVariants as nodes

-- ---- edges

-- a step of an edge, by the place and the clock at which it is made
abbrev pub EdgeStep : Type 0
EdgeStep = EdgePlace → ℕ → EdgeState → EdgeState

-- the step of a node that is an edge
abbrev pub of_edge : EdgeStep → NodeStep
of_edge step network n (any.Edge state) = any.Edge (step (place_of network n) network.clock state)
of_edge step network n (any.CoreNode state) = any.CoreNode state

module _ (core : Topology) (now : ℕ) (step : EdgeStep) (old new : EdgeView) (result : Result (Unit {0}) EdgeFault) where
  abbrev own_step : Core → EdgeState → EdgeState
  own_step own state = step (homes.place_of (home_of old) own) now state

  -- where the edge stands in the network
  there : (network : Nodes) (n : NodeId) → Stands network n core now (nodes.Edge old) → (state : EdgeState)
      → own_step (core_at network n) state ≡ step (place_of network n) network.clock state
  there network n stands state = λ i. step (homes.place_of (stands.placed.0 i) (core_at network n)) (sym stands.clock i) state

  pub edge_made : (whole : NodeStep) → ((network : Nodes) (n : NodeId) (state : EdgeState)
      → whole network n (any.Edge state) ≡ of_edge step network n (any.Edge state))
      → edges.Makes core own_step old new → (network : Nodes) (n : NodeId) → Stands network n core now (nodes.Edge old) → (state : AnyNode)
      → IsNode state (nodes.Edge old) → IsNode (whole network n state) (nodes.Edge new)
  edge_made whole same made network n stands (any.Edge state) is =
      subst (λ (s : AnyNode). IsNode s (nodes.Edge new)) (sym (same network n state))
      (subst (λ (s : EdgeState). IsIn s new) (there network n stands state) (made (core_at network n) stands.known state is))
  edge_made whole same made network n stands (any.CoreNode state) is = absurd is

  edge_lacks : (whole : NodeStep) → ((network : Nodes) (n : NodeId) (state : EdgeState)
      → whole network n (any.Edge state) ≡ of_edge step network n (any.Edge state))
      → edges.Lacks core own_step old → (network : Nodes) (n : NodeId) → Stands network n core now (nodes.Edge old) → (state : AnyNode)
      → IsNode state (nodes.Edge old) → spent_of (whole network n state) ≡ Some LacksLabel
  edge_lacks whole same lacks network n stands (any.Edge state) is =
      ap spent_of (same network n state)
      ∙ (ap (λ (s : EdgeState). s.spent) (sym (there network n stands state)) ∙ lacks (core_at network n) stands.known state is)
  edge_lacks whole same lacks network n stands (any.CoreNode state) is = absurd is

-- on an Ok answer one fact leads to another
on_ok : {P Q : Type 0} (result : Result (Unit {0}) EdgeFault) → (P → Q) → OnOk result P → OnOk result Q
on_ok (Ok done) f p = f p
on_ok (Err fault) f p = tt

pub edge_answers : (core : Topology) (now : ℕ) (step : EdgeStep) (whole : NodeStep) (old new : EdgeView) (result : Result (Unit {0}) EdgeFault)
    → ((network : Nodes) (n : NodeId) (state : EdgeState) → whole network n (any.Edge state) ≡ of_edge step network n (any.Edge state))
    → edges.Answers core (λ own state. step (homes.place_of (home_of old) own) now state) old new result
    → Answers core now whole (nodes.Edge old) (nodes.Edge new) result
edge_answers core now step whole old new result same row = record {
  placed = λ scenario n at. (row.home ∙ at.0, at.1);
  before = λ spent e. ((row.before spent e).0, ap (λ (v : EdgeView). nodes.Edge v) (row.before spent e).1);
  unspent = row.unspent;
  made = on_ok result (edge_made core now step old new result whole same) row.made;
  goes_on = row.goes_on;
  toward = row.toward;
  lacks = λ e none. edge_lacks core now step old new result whole same (row.lacks e none);
  spends = row.spends;
}

-- the same of a call
pub edge_call : (core : Topology) (now : ℕ) (call : Call) (old new : EdgeView) (result : Result (Unit {0}) EdgeFault)
    → edges.Answers core (edges.step_of old now call) old new result → Answers core now (after call) (nodes.Edge old) (nodes.Edge new) result
edge_call core now call old new result row =
    edge_answers core now (λ place clock state. called place clock state call) (after call) old new result (λ network n state. refl) row

-- the same of a call of a customer
pub edge_customer : (core : Topology) (now : ℕ) (call : Call) (old new : EdgeView) (result : Result (Unit {0}) EdgeFault)
    → EdgeCalls core now call old new result → AnswersCall core now call (nodes.Edge old) (nodes.Edge new) result
edge_customer core now call old new result row = record {
  answers = edge_call core now call old new result row.answers;
  only = row.only;
  fits = row.fits;
  full = λ e. ((row.full e).0, ap (λ (v : EdgeView). nodes.Edge v) (row.full e).1);
}

-- an end that is to come up, as the edge asks for it
pub fits_raised : (edge : EdgeView) (kind : Kind) (peer : NodeId) → MayBePeer (nodes.Edge edge) kind peer
    → (spent_in (nodes.Edge edge) ≡ None → is_end_up kind (data_in (nodes.Edge edge)) peer ≡ false) → Fits edge (Raised kind peer)
fits_raised edge kinds.Bgp peer is down = (is, down)
fits_raised edge kinds.Ldp peer is down = (is, down)

-- ---- core nodes

-- a step of a core node, by the place, the core and the clock at which it is made
abbrev pub CoreStep : Type 0
CoreStep = NodePlace → Core → ℕ → CoreState → CoreState

abbrev pub of_core : CoreStep → NodeStep
of_core step network n (any.Edge state) = any.Edge state
of_core step network n (any.CoreNode state) = any.CoreNode (step (node_place network.scenario n) (core_at network n) network.clock state)

module _ (core : Topology) (now : ℕ) (step : CoreStep) (whole : NodeStep) (old new : CoreView)
    (same : (network : Nodes) (n : NodeId) (state : CoreState) → whole network n (any.CoreNode state) ≡ of_core step network n (any.CoreNode state))
  where
    abbrev core_step : Core → CoreState → CoreState
    core_step own state = step old.labels.place own now state

    core_there : (network : Nodes) (n : NodeId) → Stands network n core now (nodes.CoreNode old) → (state : CoreState)
        → core_step (core_at network n) state ≡ step (node_place network.scenario n) (core_at network n) network.clock state
    core_there network n stands state = λ i. step (stands.placed.0 i) (core_at network n) (sym stands.clock i) state

    pub core_made : cores.Makes core core_step old new → (network : Nodes) (n : NodeId) → Stands network n core now (nodes.CoreNode old)
        → (state : AnyNode)
        → IsNode state (nodes.CoreNode old) → IsNode (whole network n state) (nodes.CoreNode new)
    core_made made network n stands (any.Edge state) is = absurd is
    core_made made network n stands (any.CoreNode state) is =
        subst (λ (s : AnyNode). IsNode s (nodes.CoreNode new)) (sym (same network n state))
        (made (core_at network n) stands.known ∙ (ap (core_step (core_at network n)) is ∙ core_there network n stands state))

    pub core_lacks : ((own : Core) → IsCoreOf core.nodes core.links own → (core_step own (state_of old)).node.spent ≡ Some LacksLabel)
        → (network : Nodes) (n : NodeId) → Stands network n core now (nodes.CoreNode old) → (state : AnyNode) → IsNode state (nodes.CoreNode old)
        → spent_of (whole network n state) ≡ Some LacksLabel
    core_lacks lacks network n stands (any.Edge state) is = absurd is
    core_lacks lacks network n stands (any.CoreNode state) is =
        ap spent_of (same network n state)
        ∙ (ap (λ (s : CoreState). s.node.spent) (sym (ap (core_step (core_at network n)) is ∙ core_there network n stands state))
        ∙ lacks (core_at network n) stands.known)

fault_told : (spent : Spent) → fault_as (cores.fault_of spent) ≡ fault_of spent
fault_told LacksLabel = refl
fault_told LacksMemory = refl

spent_told : (fault : CoreFault) → cores.spent_by fault ≡ spent_by (fault_as fault)
spent_told (core_faults.Session peer place reason) = refl
spent_told core_faults.NoLabel = refl
spent_told core_faults.NoMemory = refl

lacking : (fault : CoreFault) → fault_as fault ≡ faults.NoLabel → fault ≡ core_faults.NoLabel
lacking (core_faults.Session peer place reason) e = absurd cc
lacking core_faults.NoLabel e = refl
lacking core_faults.NoMemory e = absurd cc

one_fault : (a b : EdgeFault) → ◌≡◌ {A = Result (Unit {0}) EdgeFault} (Err a) (Err b) → a ≡ b
one_fault a b e = cc

pub core_answers : (core : Topology) (now : ℕ) (step : CoreStep) (whole : NodeStep) (old new : CoreView) (result : Result (Unit {0}) CoreFault)
    → ((network : Nodes) (n : NodeId) (state : CoreState) → whole network n (any.CoreNode state) ≡ of_core step network n (any.CoreNode state))
    → cores.Answers core (λ own state. step old.labels.place own now state) old new result
    → Answers core now whole (nodes.CoreNode old) (nodes.CoreNode new) (told_as result)
core_answers core now step whole old new (Ok done) same row = record {
  placed = λ scenario n at. (row.place ∙ at.0, at.1);
  before = λ spent e. (
    ap told_as (row.before spent e).0 ∙ ap (λ (f : EdgeFault). Err f) (fault_told spent),
    ap (λ (v : CoreView). nodes.CoreNode v) (row.before spent e).1,
  );
  unspent = row.unspent;
  made = core_made core now step whole old new same row.made;
  goes_on = row.goes_on;
  toward = row.toward;
  lacks = λ e. absurd cc;
  spends = λ fault e. absurd cc;
}
core_answers core now step whole old new (Err fault) same row = record {
  placed = λ scenario n at. (row.place ∙ at.0, at.1);
  before = λ spent e. (
    ap told_as (row.before spent e).0 ∙ ap (λ (f : EdgeFault). Err f) (fault_told spent),
    ap (λ (v : CoreView). nodes.CoreNode v) (row.before spent e).1,
  );
  unspent = tt;
  made = tt;
  goes_on = tt;
  toward = row.toward;
  lacks = λ e none. core_lacks core now step whole old new same
      (row.lacks (ap (λ (f : CoreFault). Err f) (lacking fault (one_fault (fault_as fault) faults.NoLabel e))) none);
  spends = λ other e none. row.spends fault refl none ∙ (spent_told fault ∙ ap spent_by (one_fault (fault_as fault) other e));
}

-- the same of a call that is one of the label part
pub core_call : (core : Topology) (now : ℕ) (call : Call) (own : labels.Call) (old new : CoreView) (result : Result (Unit {0}) CoreFault)
    → own_label_call call ≡ Some own → cores.Answers core (cores.step_of old now own) old new result
    → Answers core now (after call) (nodes.CoreNode old) (nodes.CoreNode new) (told_as result)
core_call core now call own old new result is row =
    core_answers core now (λ place known clock state. core_called place known clock state own) (after call) old new result
    (λ network n state i. any.CoreNode (core_after network n state (is i))) row

-- what holds where a core node answers Ok holds where the node does
pub told_ok : (P : Type 0) (result : Result (Unit {0}) CoreFault) → OnOk result P → OnOk (told_as result) P
told_ok P (Ok done) p = p
told_ok P (Err fault) p = tt
