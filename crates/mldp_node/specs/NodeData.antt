-- A label node as its callers see it, and what its calls answer.
use Rattle.std.specs.Prelude.{◌≡◌, ◌≢◌, ℕ, Bool, true, false, List, Option, None, Some, Result, Err, OnOk, option_map, refl}
use Rattle.std.specs.Coded.{Coded, code_by, coded×, coded_list, coded_ℕ, coded_bool, coded_option}
use Rattle.std.specs.FinMap as maps
use Rattle.std.specs.FinMap.{FinMap}
use Rattle.std.specs.FinSet as sets
use Rattle.std.specs.FinSet.{FinSet}
use Rattle.mv_base.specs.declared.ids.NodeId.{NodeId}
use Rattle.mv_base.specs.contracts.ids.NodeId as nodes
use Rattle.mv_base.specs.core_walks.Core.{Core, IsCoreOf}
use Rattle.mv_base.specs.core_walks.Topology.{Topology}
use Rattle.mldp.specs.declared.mldp_fec.fec.Fec.{Fec}
use Rattle.mldp.specs.contracts.mldp_fec.fec.Fec as fecs
use Rattle.mldp.specs.mldp_msgs.Spelling.{IsElement}
use Rattle.label_trees.specs.tunnel_bindings.Bindings.{Named}
use Rattle.label_defs.specs.contracts.branch.Branch as branches
use Rattle.label_defs.specs.declared.end.End.{End}
use Rattle.label_defs.specs.contracts.end.End as ends
use Rattle.label_defs.specs.declared.label_use.LabelUse.{LabelUse}
use Rattle.label_defs.specs.contracts.label_use.LabelUse as label_uses
use Rattle.label_defs.specs.Keys.{fec_cmp, branch_cmp, node_cmp}
use Rattle.label_defs.specs.LabelData.{LabelData, use_of}
use Rattle.label_defs.specs.Node.{Spent, LacksLabel, LacksMemory, LabelNode, NodePlace, is_p2mp, node_at, called}
use Rattle.label_defs.specs.Steps.{Call}
use Rattle.label_trees.specs.label_forwarding.FibData.{FibData, hop}
use Rattle.label_trees.specs.label_uses.Uses.{Uses, AreBindings}
use Rattle.label_trees.specs.Trees.{Trees, fec_under}
use Rattle.mldp_node.specs.label_ends.Ends.{Ends}
use Rattle.mldp_node.specs.declared.fault.NodeFault.{NodeFault}
use Rattle.mldp_node.specs.declared.fault.NodeFault.TheVariants as faults
use Rattle.mldp_node.specs.Parts.{part_of, AreSessions, AreTied, WaitOnTrees, WaitTowardRoots, WaitedTowardRoots}
use Rattle.mldp_node.specs.Standing.{place_code}

-- Where it stands, the node, and the neighbour towards which each tree waits.
pub record NodeData : Type 0 where
  pub place : NodePlace
  pub node : LabelNode
  pub awaited : FinMap fec_cmp NodeId

-- ---- its code

pub is_memory : Spent → Bool
is_memory LacksLabel = false
is_memory LacksMemory = true

pub spent_by : Bool → Spent
spent_by false = LacksLabel
spent_by true = LacksMemory

pub spent_back : (s : Spent) → spent_by (is_memory s) ≡ s
unfolding is_memory spent_by
spent_back LacksLabel = refl
spent_back LacksMemory = refl

abbrev pub spent_code : Coded Spent
spent_code = code_by Bool coded_bool is_memory spent_by spent_back

abbrev pub part_code : Coded LabelData
part_code = code_by (List LabelUse × (FinSet branch_cmp × (FinSet fec_cmp × (FinSet fec_cmp × FinMap node_cmp End))))
    (coded× (coded_list label_uses.the_row.coded) (coded× (sets.code branches.the_row.coded) (coded× (sets.code fecs.the_row.coded)
    (coded× (sets.code fecs.the_row.coded) (maps.code nodes.the_row.coded ends.the_row.coded)))))
    (λ p. (p.labels, (p.branches, (p.leaves, (p.waiting, p.ends)))))
    (λ q. record { labels = q.0; branches = q.1.0; leaves = q.1.1.0; waiting = q.1.1.1.0; ends = q.1.1.1.1 }) (λ _. refl)

abbrev pub label_node_code : Coded LabelNode
label_node_code = code_by (LabelData × (FinMap node_cmp ℕ × (FinMap node_cmp (List ℕ) × Option Spent)))
    (coded× part_code (coded× (maps.code nodes.the_row.coded coded_ℕ)
    (coded× (maps.code nodes.the_row.coded (coded_list coded_ℕ)) (coded_option spent_code))))
    (λ n. (n.part, (n.raises, (n.waiting, n.spent))))
    (λ q. record { part = q.0; raises = q.1.0; waiting = q.1.1.0; spent = q.1.1.1 }) (λ _. refl)

abbrev pub node_code : Coded NodeData
node_code = code_by (NodePlace × (LabelNode × FinMap fec_cmp NodeId))
    (coded× place_code (coded× label_node_code (maps.code fecs.the_row.coded nodes.the_row.coded)))
    (λ n. (n.place, (n.node, n.awaited))) (λ q. record { place = q.0; node = q.1.0; awaited = q.1.1 }) (λ _. refl)

-- ---- what is seen, and what is kept

-- why a node that answered the fault is spent
abbrev pub cause : NodeFault → Spent
cause faults.NoLabel = LacksLabel
cause faults.NoMemory = LacksMemory

abbrev pub seen : NodePlace → Trees → Ends → Option NodeFault → NodeData
seen place trees ends spent = record {
  place = place;
  node = record { part = part_of trees ends.up; raises = ends.raises; waiting = ends.waiting; spent = option_map cause spent };
  awaited = trees.uses.waiting;
}

-- what holds of a node that is not spent
pub record IsNode (place : NodePlace) (trees : Trees) (ends : Ends) : Type 0 where
  pub tied : AreTied trees ends
  pub on : WaitOnTrees trees
  pub life : trees.uses.life ≡ place.life

-- ---- where its trees wait

-- each tree that waits for a label does so towards the neighbour towards its root, by this core
abbrev pub IsWaitingTowardRoots : Core → NodeData → Type 0
IsWaitingTowardRoots own node = WaitTowardRoots node.place own node.awaited

-- whichever way the core is told
abbrev pub WaitsTowardRootsOf : Topology → NodeData → Type 0
WaitsTowardRootsOf core node = (own : Core) → IsCoreOf core.nodes core.links own → IsWaitingTowardRoots own node

-- where they did so before, they do so still
abbrev pub KeepsWaitingTowardRoots : Topology → NodeData → NodeData → Type 0
KeepsWaitingTowardRoots core old new =
    (own : Core) → IsCoreOf core.nodes core.links own → IsWaitingTowardRoots own old → IsWaitingTowardRoots own new

-- ---- calls

-- What a call answers and leaves. A spent node answers the same as before, and stays. Otherwise the call is a label step, whichever
-- way the core is told; `NoLabel` comes where there is none. Of want of memory nothing more is said than that the node is spent.
-- Each tree that waits does so towards its root still; where next hops changed, it does so by the new ones.
pub record Answers (core : Topology) (now : ℕ) (call : Call) (old new : NodeData) (result : Result (Unit {0}) NodeFault) : Type 0 where
  pub place : new.place ≡ old.place
  pub before : (fault : NodeFault) → old.node.spent ≡ Some (cause fault) → (result ≡ Err fault) × (new ≡ old)
  pub unspent : OnOk result (old.node.spent ≡ None)
  pub made : OnOk result ((own : Core) → IsCoreOf core.nodes core.links own → new.node ≡ called old.place own now old.node call)
  pub goes_on : OnOk result (new.node.spent ≡ None)
  pub toward : OnOk result ((own : Core) → IsCoreOf core.nodes core.links own →
      WaitedTowardRoots call old.place own old.awaited → WaitTowardRoots old.place own new.awaited)
  pub lacks : result ≡ Err faults.NoLabel → old.node.spent ≡ None →
      (own : Core) → IsCoreOf core.nodes core.links own → (called old.place own now old.node call).spent ≡ Some LacksLabel
  pub faults : (fault : NodeFault) → result ≡ Err fault → new.node.spent ≡ Some (cause fault)

-- a tree that the node may want: it is a P2MP LSP with a spelling, and its root is another node's address
pub record MayWant (place : NodePlace) (fec : Fec) : Type 0 where
  pub kind : is_p2mp fec.kind ≡ true
  pub spelled : IsElement fec
  pub root : NodeId
  pub rooted : node_at place.addrs fec.root ≡ Some root
  pub other : root ≢ place.me

-- ---- what it lends

-- the notes of the forwarding table are exactly the mapped labels with their neighbours and trees, and its leaves and branches
-- are those of the label part
pub record IsFibOfPart (part : LabelData) (fib : FibData) : Type 0 where
  pub mapped : (from : NodeId) (label : ℕ) → maps.get fib.pairs (hop from label) ≡ fec_under (use_of part label) from
  pub leaves : fib.leaves ≡ part.leaves
  pub branches : fib.branches ≡ part.branches

-- The bindings are those of the labels that are mapped or leaving and of the trees that wait, each towards its neighbour. Those with
-- a label were told over the present raise of their session.
pub record AreOwnBindings (own : NodeData) (named : Named) : Type 0 where
  pub uses : Uses
  pub labels : uses.labels ≡ own.node.part.labels
  pub waiting : uses.waiting ≡ own.awaited
  pub sessions : own.node.spent ≡ None → AreSessions uses.sessions own.node.part.ends own.node.raises
  pub are : AreBindings uses named
