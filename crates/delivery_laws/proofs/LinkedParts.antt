-- The branches of a node lead along links, whatever it does.
use Rattle.std.specs.Prelude.{⊤, if◌then◌else◌}
use Rattle.std.proofs.Common.{◌≡◌, ℕ, ◌+◌, ◌==◌, Bool, true, false, not, ◌&&◌, ◌++◌, map, List, [], ◌∷◌, Option, Some, None, inl, inr, sym, subst, ◌∙◌}
use Rattle.std.specs.List.{filter, AllByRecursion}
use Rattle.std.specs.Cmp.{Equal-is}
use Rattle.std.specs.FinSet as sets
use Rattle.std.specs.FinSet.{FinSet}
use Rattle.std.specs.Ordering.{eq_by_cmp}
use Rattle.std.proofs.lemmas.Bool.{cond_both, or_cases, and_parts, true≢false}
use Rattle.mv_base.specs.Number.{◌>>?◌}
use Rattle.mv_base.specs.declared.ids.NodeId.{NodeId}
use Rattle.mldp.specs.declared.mldp_fec.fec.Fec.{Fec}
use Rattle.mldp.specs.declared.mldp_msgs.message.LabelMessage.TheVariants as messages
use Rattle.scenario_defs.specs.declared.event.Kind.TheVariants as kinds
use Rattle.scenario_defs.specs.declared.scenario.Scenario.{Scenario}
use Rattle.label_defs.specs.Keys.{branch_cmp, fec_cmp}
use Rattle.label_defs.specs.LabelData as labels
use Rattle.label_defs.specs.LabelData.{Place, LabelData, use_of}
use Rattle.label_defs.specs.Settling.{Stepped, with_use}
use Rattle.label_defs.specs.Steps.{Call, Taken, Want, Unwant, Raised, Noticed, Timers, Rerouted, branch_to, released, with_release, effect, label_step}
use Rattle.label_defs.specs.declared.branch.Branch.{Branch}
use Rattle.label_defs.specs.declared.label_use.LabelUse.{LabelUse}
use Rattle.label_defs.specs.Members.{in_order}
use Rattle.label_defs.proofs.KeyLemmas.{branch_cmp_total, branch_cmp_exact, node_equal}
use Rattle.label_defs.proofs.SetLemmas.{retained}
use Rattle.label_defs.proofs.WithdrawLemmas.{same_branches}
use Rattle.network_defs.specs.session_defs.System.{Stepped as SystemStepped}
use Rattle.edge_defs.specs.Edge as edges
use Rattle.edge_defs.specs.Edge.{EdgeData}
use Rattle.edge_defs.specs.Place.{EdgePlace, label_place}
use Rattle.edge_defs.specs.Steps as steps
use Rattle.edge_defs.specs.Steps.{EdgeStepped, LabelStep, edge_step, own_label_call, changed_leaves, one_call, control_step, label_row, part_after, raised_after}
use Rattle.edge_defs.specs.Tunnels.{leaves}
use Rattle.network_defs.specs.Nodes.{NodeState, Edge, CoreNode, Nodes, is_edge, fresh_node, with_node, following, place_of, label_place_of, part_of}
use Rattle.network_defs.specs.System.{core_called, node_called}
use Rattle.delivery_laws.specs.Linked.{IsLink, HasLinks, NodesLinked}
use Rattle.network_laws.proofs.Lists.{each_append}
use Rattle.network_laws.proofs.ready_laws.Ends.{holds_from, holds_then, Holds}

module _ (scenario : Scenario) (n : NodeId) where
  abbrev Has : LabelData → Type 0
  Has part = HasLinks scenario n part

  -- a message is taken from a neighbour on a link
  abbrev pub MayTake : Call → Type 0
  MayTake (Taken from message) = IsLink scenario n from
  MayTake other = ⊤

  release_has : (part : LabelData) (from : NodeId) (fec : Fec) (label until : ℕ) → Has part → Has (with_release part from fec label until)
  release_has part from fec label until h = by (use_of part label)
    where
      by : (o : Option LabelUse) → Has (elim o [ None ↦ part | Some usage ↦ with_use part label (released from fec until usage) ])
      by None = h
      by (Some usage) = h

  effect_has : (place : Place) (now : ℕ) (part : LabelData) (call : Call) → MayTake call → Has part → Has (effect place now part call).0.part
  effect_has place now part (Taken from (messages.Mapping fec label)) w h =
      cond_both (place.is_tree fec) (record part { branches = sets.insert part.branches (branch_to from fec label) }) part Has
      (λ t branch is. elim (or_cases (eq_by_cmp branch_cmp branch (branch_to from fec label)) (sets.contains part.branches branch)
      (sym (sets.contains-insert branch_cmp_total part.branches (branch_to from fec label) branch) ∙ is)) [
        | inl own ↦ (let same : branch ≡ branch_to from fec label =
            branch_cmp_exact branch (branch_to from fec label) ((Equal-is (branch_cmp branch (branch_to from fec label))).0 own) in
            subst (λ (b : Branch). IsLink scenario n b.node) (sym same) w)
        | inr old ↦ h branch old
      ])
      (λ f. h)
  effect_has place now part (Taken from (messages.Withdraw fec label)) w h =
      λ branch is. h branch (and_parts (not (eq_by_cmp branch_cmp branch (branch_to from fec label))) (sets.contains part.branches branch)
      (sym (sets.contains-remove branch_cmp_total part.branches (branch_to from fec label) branch) ∙ is)).1
  effect_has place now part (Taken from (messages.Release fec label)) w h = release_has part from fec label (now + place.life + 1) h
  effect_has place now part (Taken from (messages.Ignored kind)) w h = h
  effect_has place now part (Want fec) w h = h
  effect_has place now part (Unwant fec) w h = h
  effect_has place now part (Raised peer) w h = h
  effect_has place now part (Noticed peer) w h =
      λ branch is. h branch (and_parts (sets.contains part.branches branch) (not (branch.node.0 == peer.0))
      (sym (retained branch_cmp_total branch_cmp_exact part.branches (λ (b : Branch). not (b.node.0 == peer.0)) branch) ∙ is)).0
  effect_has place now part Timers w h = h
  effect_has place now part Rerouted w h = h

  step_has : (place : Place) (now : ℕ) (part : LabelData) (call : Call) → MayTake call → Has part
      → Holds (λ (new : Stepped). Has new.part) (label_step place now part call)
  step_has place now part call w h = holds_from (λ (new : Stepped). Has new.part) (label_step place now part call)
      (λ new e. subst (λ (s : FinSet branch_cmp). (branch : Branch) → sets.contains s branch ≡ true → IsLink scenario n branch.node)
      (sym (same_branches place now part call new e)) (effect_has place now part call w h))

  row_has : (place : EdgePlace) (now : ℕ) (calls : List Call) (part : LabelData) → AllByRecursion MayTake calls → Has part
      → Holds (λ (row : List LabelStep). Has (part_after part row)) (label_row place now part calls)
  row_has place now [] part w h = h
  row_has place now (call ∷ more) part w h =
      let at = label_place place.scenario place.core place.me in
      holds_then (λ (new : Stepped). Has new.part) (λ (row : List LabelStep). Has (part_after part row)) (label_step at now part call)
      (λ new. label_row place now new.part more >>? λ thereafter. Some (record { old = part; call = call; new = new } ∷ thereafter))
      (step_has at now part call w.0 h)
      (λ new k. holds_then (λ (row : List LabelStep). Has (part_after new.part row)) (λ (row : List LabelStep). Has (part_after part row))
      (label_row place now new.part more) (λ thereafter. Some (record { old = part; call = call; new = new } ∷ thereafter))
      (row_has place now more new.part w.1 k) (λ row p. p))

  -- ---- a node

  -- what a node may be called for: a label message comes from a neighbour on a link
  abbrev pub MayCall : steps.Call → Type 0
  MayCall (steps.Label from message) = IsLink scenario n from
  MayCall other = ⊤

  own_may : (call : steps.Call) → MayCall call → AllByRecursion MayTake (one_call (own_label_call call))
  own_may (steps.Label from message) w = (w, tt)
  own_may (steps.Raised kinds.Ldp peer) w = (tt, tt)
  own_may (steps.Raised kinds.Bgp peer) w = tt
  own_may (steps.Noticed kinds.Ldp peer) w = (tt, tt)
  own_may (steps.Noticed kinds.Bgp peer) w = tt
  own_may steps.Timers w = (tt, tt)
  own_may steps.Rerouted w = (tt, tt)
  own_may other w = tt

  leaves_may : (old new : FinSet fec_cmp) → AllByRecursion MayTake (changed_leaves old new)
  leaves_may old new = along (filter (λ fec. not (sets.contains old fec && sets.contains new fec)) (in_order (sets.union old new)))
    where
      along : (list : List Fec) → AllByRecursion MayTake (map (λ fec. if sets.contains new fec then Want fec else Unwant fec) list)
      along [] = tt
      along (fec ∷ more) = (cond_both (sets.contains new fec) (Want fec) (Unwant fec) MayTake (λ t. tt) (λ f. tt), along more)

  edge_has : (place : EdgePlace) (now : ℕ) (edge : EdgeData) (call : steps.Call) → MayCall call → Has edge.part
      → Holds (λ (new : EdgeStepped). Has new.edge.part) (edge_step place now edge call)
  edge_has place now edge call w h =
      let control = control_step place now edge.control call in
      let calls = one_call (own_label_call call) ++ changed_leaves (leaves place edge.control) (leaves place control) in
      holds_then (λ (row : List LabelStep). Has (part_after edge.part row)) (λ (new : EdgeStepped). Has new.edge.part)
      (label_row place now edge.part calls) (λ row. Some
      (record { edge = record { control = control; part = part_after edge.part row; raised = raised_after now edge.raised call }; row = row }))
      (row_has place now calls edge.part (each_append MayTake (one_call (own_label_call call))
      (changed_leaves (leaves place edge.control) (leaves place control)) (own_may call w)
      (leaves_may (leaves place edge.control) (leaves place control))) h)
      (λ row p. p)

-- ---- all nodes

-- a node in which nothing has happened has no branch
pub fresh_linked : (scenario own : Scenario) (n : NodeId) → HasLinks scenario n (part_of (fresh_node own n))
fresh_linked scenario own n = by (is_edge own n)
  where
    by : (b : Bool) → HasLinks scenario n (part_of (if b then Edge (edges.fresh own.labels) else CoreNode (labels.fresh own.labels)))
    by true branch is = absurd (true≢false (sym is ∙ sets.contains-empty branch_cmp branch))
    by false branch is = absurd (true≢false (sym is ∙ sets.contains-empty branch_cmp branch))

one_node : (scenario : Scenario) (nodes : Nodes) (n : NodeId) (new : NodeState) → NodesLinked scenario nodes → HasLinks scenario n (part_of new)
    → NodesLinked scenario (with_node nodes n new)
one_node scenario nodes n new l h = record {
  place = l.place;
  links = λ m. cond_both (m.0 == n.0) new (nodes.node m) (λ (node : NodeState). HasLinks scenario m (part_of node))
      (λ t. subst (λ (x : NodeId). HasLinks scenario x (part_of new)) (sym (node_equal m n t)) h) (λ f. l.links m);
}

pub called_linked : (scenario : Scenario) (nodes : Nodes) (n : NodeId) (call : steps.Call) → NodesLinked scenario nodes → MayCall scenario n call
    → Holds (λ (new : SystemStepped Nodes). NodesLinked scenario new.state) (node_called nodes n (nodes.node n) call)
called_linked scenario nodes n call l w = by (nodes.node n) (l.links n)
  where
    core : (part : LabelData) → HasLinks scenario n part → (o : Option Call) → AllByRecursion (MayTake scenario n) (one_call o)
        → Holds (λ (new : SystemStepped Nodes). NodesLinked scenario new.state) (core_called nodes n part o)
    core part h None m = l
    core part h (Some own) m =
        holds_then (λ (new : Stepped). HasLinks scenario n new.part) (λ (new : SystemStepped Nodes). NodesLinked scenario new.state)
        (label_step (label_place_of nodes n) nodes.clock part own) _
        (step_has scenario n (label_place_of nodes n) nodes.clock part own m.0 h) (λ new p. one_node scenario nodes n (CoreNode new.part) l p)

    by : (node : NodeState) → HasLinks scenario n (part_of node)
        → Holds (λ (new : SystemStepped Nodes). NodesLinked scenario new.state) (node_called nodes n node call)
    by (Edge edge) h =
        holds_then (λ (new : EdgeStepped). HasLinks scenario n new.edge.part) (λ (new : SystemStepped Nodes). NodesLinked scenario new.state)
        (edge_step (place_of nodes n) nodes.clock edge call) _
        (edge_has scenario n (place_of nodes n) nodes.clock edge call w h) (λ new p. one_node scenario nodes n (Edge new.edge) l p)
    by (CoreNode part) h = core part h (own_label_call call) (own_may scenario n call w)

-- a node that takes over the present costs
pub follow_linked : (scenario : Scenario) (nodes : Nodes) (n : NodeId) → NodesLinked scenario nodes
    → Holds (λ (new : SystemStepped Nodes). NodesLinked scenario new.state) (node_called (following nodes n) n (nodes.node n) steps.Rerouted)
follow_linked scenario nodes n l = called_linked scenario (following nodes n) n steps.Rerouted (record { place = l.place; links = l.links }) tt

pub reset_linked : (scenario : Scenario) (nodes : Nodes) (n : NodeId) → NodesLinked scenario nodes
    → NodesLinked scenario (with_node nodes n (fresh_node nodes.scenario n))
reset_linked scenario nodes n l = one_node scenario nodes n (fresh_node nodes.scenario n) l (fresh_linked scenario nodes.scenario n)
