use Rattle.std.proofs.Common.{◌≡◌, ◌∙◌, List, map, ap}
use Rattle.std.proofs.lemmas.Result.{IfOk-weaker}
use Rattle.std.specs.FinSet as sets
use Rattle.std.specs.FinSet.{FinSet}
use Rattle.mldp.specs.declared.mldp_fec.fec.Fec.{Fec}
use Rattle.label_defs.specs.Keys.{fec_cmp}
use Rattle.label_defs.specs.Members.{in_order}
use Rattle.mldp_node.specs.NodeData.{NodeData}
use Rattle.node_laws.specs.edge_defs.Steps.{changed_leaves}
use Rattle.edge_labels.specs.Calls.{leaf_call}
use Rattle.edge_labels.specs.Changes.{AreCandidates, changes_in}
use Rattle.edge_labels.specs.declared.changes.LeafChange.{LeafChange}
use Rattle.edge_labels.proofs.ChangeLemmas.{all_changes}
use Rattle.edge_labels.proofs.labels.EdgeLabels.leaf_changes.Goals as goal

-- The changes of the candidates in their order are those of the leaves.
told : (old fib new : FinSet fec_cmp) (candidates fecs leaves : List Fec) (changes : List LeafChange) → fib ≡ old
    → fecs ≡ in_order (sets.from_list {R = fec_cmp} candidates)
    → AreCandidates old new candidates leaves → changes ≡ changes_in fib leaves fecs → map leaf_call changes ≡ changed_leaves old new
told old fib new candidates fecs leaves changes same ordered are is =
    ap (λ (list : List LeafChange). map leaf_call list) (is ∙ (λ i. changes_in (same i) leaves (ordered i)))
    ∙ all_changes old new candidates leaves are

pub returns : goal.returns
returns c = λ new are.
    IfOk-weaker c.changes_in.result _ _
    (λ changes is.
    told c.args.self.now.node.part.leaves c.fib.result.now.leaves new c.args.candidates.items c.deref.result.now c.args.leaves.now changes.items
    (c.fib.ensures.leaves ∙ ap (λ (n : NodeData). n.node.part.leaves) c.self.view_is)
    (c.deref.ensures.value ∙ c.in_ok-fecs.ensures) are is)
    c.changes_in.ensures
