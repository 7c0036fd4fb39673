-- The parts of a node, the label part that they are, and what ties them to each other.
use Rattle.std.specs.Prelude.{◌≡◌, ◌≤◌, ◌⊎◌, ⊤, ℕ, Bool, true, false, List, ◌++◌, length, All}
use Rattle.std.specs.Prelude.{Option, None, Some, is_some, if◌then◌else◌}
use Rattle.std.specs.FinMap as maps
use Rattle.std.specs.FinMap.{FinMap}
use Rattle.std.specs.FinSet as sets
use Rattle.std.specs.FinSet.{FinSet}
use Rattle.std.specs.List.{list_any}
use Rattle.mv_base.specs.Number.{◌>>?◌}
use Rattle.mv_base.specs.declared.ids.NodeId.{NodeId}
use Rattle.mv_base.specs.core_walks.Core.{Core, IsCoreOf}
use Rattle.mv_base.specs.core_walks.Topology.{Topology}
use Rattle.mldp.specs.declared.mldp_fec.fec.Fec.{Fec}
use Rattle.mldp.specs.declared.mldp_msgs.message.LabelMessage.{LabelMessage}
use Rattle.mldp.specs.declared.mldp_msgs.message.LabelMessage.TheVariants as messages
use Rattle.mldp.specs.mldp_msgs.Spelling.{IsElement, IsWritable}
use Rattle.label_trees.specs.tunnel_bindings.declared.binding.Incarnation.{Incarnation}
use Rattle.label_defs.specs.declared.branch.Branch.{Branch}
use Rattle.label_defs.specs.declared.change.Change.{Change}
use Rattle.label_defs.specs.declared.change.Change.TheVariants as changes
use Rattle.label_defs.specs.declared.end.End.{End}
use Rattle.label_defs.specs.declared.put.Put.{Put}
use Rattle.label_defs.specs.Keys.{fec_cmp, node_cmp}
use Rattle.label_defs.specs.LabelData.{LabelData, same_fec, has_tree, mapped_label, free_label}
use Rattle.label_defs.specs.Node.{NodePlace, LabelNode, raises_of, addr_in, place_in, called}
use Rattle.label_defs.specs.Settled.{Maps}
use Rattle.label_defs.specs.Settling.{Stepped, settle_all, change_by, changed, put_by, holder_of, is_ready_to}
use Rattle.label_defs.specs.Steps.{Call, Rerouted, label_step}
use Rattle.label_trees.specs.Trees.{Trees}
use Rattle.mldp_node.specs.label_ends.Ends.{Ends, with_puts}

-- the trees that wait
abbrev pub awaited : FinMap fec_cmp NodeId → FinSet fec_cmp
awaited waiting = sets.from_list (maps.keys waiting)

-- the label part of a node with these trees and these ends
abbrev pub part_of : Trees → FinMap node_cmp End → LabelData
part_of trees up = record {
  labels = trees.uses.labels;
  branches = trees.branches;
  leaves = trees.leaves;
  waiting = awaited trees.uses.waiting;
  ends = up;
}

-- whether the node is on the tree
abbrev pub is_on_tree : Trees → Fec → Bool
is_on_tree trees fec = has_tree (part_of trees maps.empty) fec

-- ---- one tree settles

-- the node after a change of the tree, with what is put
abbrev pub after_change : Stepped → Fec → Change → Option Stepped
after_change old fec change = changed old.part fec change >>? λ new. Some (record { part = new; puts = old.puts ++ put_by fec change })

-- what the tree needs where that is the neighbour towards its root
abbrev pub change_toward : Option NodeId → LabelData → Fec → Change
change_toward upstream part fec =
    change_by (has_tree part fec) (mapped_label part fec) (holder_of part fec) upstream (is_ready_to part upstream) (free_label part)

-- the tree settles
abbrev pub settled_toward : Option NodeId → Fec → Stepped → Option Stepped
settled_toward upstream fec old = after_change old fec (change_toward upstream old.part fec)

-- the trees that wait after a change of the tree, where that is the neighbour towards its root
abbrev pub waiting_by : Option NodeId → Fec → Change → FinMap fec_cmp NodeId → FinMap fec_cmp NodeId
waiting_by upstream fec (changes.Map to label) old = maps.remove old fec
waiting_by upstream fec changes.Wait old = elim upstream [ None ↦ old | Some neighbour ↦ maps.insert old fec neighbour ]
waiting_by upstream fec changes.Cancel old = maps.remove old fec
waiting_by upstream fec other old = old

-- ---- what ties the parts

-- each session that is up is known by its present raise, and no other is known
abbrev pub AreSessions : FinMap node_cmp Incarnation → FinMap node_cmp End → FinMap node_cmp ℕ → Type 0
AreSessions sessions up raises = (peer : NodeId) →
    maps.get sessions peer ≡ (if is_some (maps.get up peer) then Some (record { 0 = raises_of raises peer }) else None)

-- each tree on which the node is or for which a label is mapped has a spelling, and so has each label
pub record AreSpelled (part : LabelData) : Type 0 where
  pub leaves : (fec : Fec) → sets.contains part.leaves fec ≡ true → IsElement fec
  pub branches : (branch : Branch) → sets.contains part.branches branch ≡ true → IsElement branch.fec
  pub mapped : (fec : Fec) (label : ℕ) (upstream : NodeId) → Maps part fec label upstream → IsElement fec
  pub few : length part.labels ≤ 65536

-- the message of the put has a spelling
abbrev pub IsPut : Put → Type 0
IsPut put = IsWritable put.message

-- a tree to which a label is mapped does not wait for one
abbrev pub MappedDoNotWait : Trees → FinMap node_cmp End → Type 0
MappedDoNotWait trees up =
    (fec : Fec) (label : ℕ) (upstream : NodeId) → Maps (part_of trees up) fec label upstream → maps.get trees.uses.waiting fec ≡ None

-- what holds of the trees and ends of each node that is not spent, also before its trees settle
pub record AreTied (trees : Trees) (ends : Ends) : Type 0 where
  pub sessions : AreSessions trees.uses.sessions ends.up ends.raises
  pub spelled : AreSpelled (part_of trees ends.up)
  pub apart : MappedDoNotWait trees ends.up

-- a tree that waits is one on which the node is
abbrev pub WaitOnTrees : Trees → Type 0
WaitOnTrees trees = (fec : Fec) (upstream : NodeId) → maps.get trees.uses.waiting fec ≡ Some upstream → is_on_tree trees fec ≡ true

-- a tree that waits does so towards the neighbour towards its root, by the core that the node knows
abbrev pub WaitTowardRoots : NodePlace → Core → FinMap fec_cmp NodeId → Type 0
WaitTowardRoots place own waiting =
    (fec : Fec) (upstream : NodeId) → maps.get waiting fec ≡ Some upstream → (place_in place own).upstream fec ≡ Some upstream

-- the same before a call, unless the call is that next hops changed
abbrev pub WaitedTowardRoots : Call → NodePlace → Core → FinMap fec_cmp NodeId → Type 0
WaitedTowardRoots Rerouted place own waiting = ⊤
WaitedTowardRoots other place own waiting = WaitTowardRoots place own waiting

-- ---- what a tree that settles leaves

-- The tree's change was made and put, where that is the neighbour towards its root. Sessions stay as they are.
pub record Turned (upstream : Option NodeId) (fec : Fec) (change : Change)
    (old : Trees) (puts : List Put) (new : Trees) (told : List Put) : Type 0 where
  pub made : (up : FinMap node_cmp End) → after_change (record { part = part_of old up; puts = puts }) fec change
      ≡ Some (record { part = part_of new up; puts = told })
  pub waiting : new.uses.waiting ≡ waiting_by upstream fec change old.uses.waiting
  pub sessions : new.uses.sessions ≡ old.uses.sessions
  pub life : new.uses.life ≡ old.uses.life

-- the tree settled so
pub record SettledSo (upstream : Option NodeId) (fec : Fec) (up : FinMap node_cmp End)
    (old : Trees) (puts : List Put) (new : Trees) (told : List Put) : Type 0 where
  pub made : settled_toward upstream fec (record { part = part_of old up; puts = puts })
      ≡ Some (record { part = part_of new up; puts = told })
  pub waiting : new.uses.waiting ≡ waiting_by upstream fec (change_toward upstream (part_of old up) fec) old.uses.waiting
  pub sessions : new.uses.sessions ≡ old.uses.sessions
  pub life : new.uses.life ≡ old.uses.life

-- the tree needs a label and none is free
abbrev pub LacksOne : Option NodeId → Fec → FinMap node_cmp End → Trees → List Put → Type 0
LacksOne upstream fec up old puts = settled_toward upstream fec (record { part = part_of old up; puts = puts }) ≡ None

-- whether the end is up and its hold was run
abbrev pub held_at : FinMap node_cmp End → NodeId → Bool
held_at up peer = elim (maps.get up peer) [ None ↦ false | Some end ↦ end.held ]

-- ---- a row of trees that settle

-- a node with these trees and ends, and what it puts
abbrev pub stepped_of : Trees → FinMap node_cmp End → List Put → Stepped
stepped_of trees up puts = record { part = part_of trees up; puts = puts }

-- the tree waited so before, and is none of those that settled
abbrev pub WaitedBeside : List Fec → Trees → Fec → NodeId → Type 0
WaitedBeside fecs old fec upstream = (maps.get old.uses.waiting fec ≡ Some upstream) × (list_any (same_fec fec) fecs ≡ false)

-- The trees settled one after another, whichever way the core is told. What ties the parts holds still. The node is on each of them
-- that waits, and it waits towards its root.
pub record AllSettledSo (core : Topology) (place : NodePlace) (fecs : List Fec) (ends : Ends)
    (old : Trees) (puts : List Put) (new : Trees) (told : List Put) : Type 0 where
  pub made : (own : Core) → IsCoreOf core.nodes core.links own
      → settle_all (place_in place own) fecs (stepped_of old ends.up puts) ≡ Some (stepped_of new ends.up told)
  pub tied : AreTied new ends
  pub life : new.uses.life ≡ old.uses.life
  pub written : All IsPut told
  pub same : (fec : Fec) → is_on_tree new fec ≡ is_on_tree old fec
  pub on : (fec : Fec) (upstream : NodeId) → maps.get new.uses.waiting fec ≡ Some upstream →
      (is_on_tree new fec ≡ true) ⊎ WaitedBeside fecs old fec upstream
  pub toward : (own : Core) → IsCoreOf core.nodes core.links own → (fec : Fec) (upstream : NodeId) →
      maps.get new.uses.waiting fec ≡ Some upstream →
      ((place_in place own).upstream fec ≡ Some upstream) ⊎ WaitedBeside fecs old fec upstream

-- one of the trees needs a label and none is free
abbrev pub LacksAny : Topology → NodePlace → List Fec → Ends → Trees → List Put → Type 0
LacksAny core place fecs ends old puts =
    (own : Core) → IsCoreOf core.nodes core.links own → settle_all (place_in place own) fecs (stepped_of old ends.up puts) ≡ None

-- The trees settled, and what was put is told then.
pub record Finished (core : Topology) (place : NodePlace) (fecs : List Fec)
    (old : Trees) (ends : Ends) (puts : List Put) (new : Trees) (new_ends : Ends) : Type 0 where
  pub told : List Put
  pub settled : AllSettledSo core place fecs ends old puts new told
  pub over : new_ends ≡ with_puts (addr_in place) ends told

-- ---- calls

-- a node that is not spent
abbrev pub node_of : Trees → Ends → LabelNode
node_of trees ends = record { part = part_of trees ends.up; raises = ends.raises; waiting = ends.waiting; spent = None }

-- the call was made, whichever way the core is told
pub record Made (core : Topology) (place : NodePlace) (now : ℕ) (call : Call)
    (old : Trees) (old_ends : Ends) (new : Trees) (new_ends : Ends) : Type 0 where
  pub made : (own : Core) → IsCoreOf core.nodes core.links own → called place own now (node_of old old_ends) call ≡ node_of new new_ends
  pub tied : AreTied new new_ends
  pub life : new.uses.life ≡ old.uses.life
  pub on : WaitOnTrees old → WaitOnTrees new
  pub toward : (own : Core) → IsCoreOf core.nodes core.links own → WaitOnTrees old → WaitedTowardRoots call place own old.uses.waiting →
      WaitTowardRoots place own new.uses.waiting

-- the call needs more labels than are free
abbrev pub LacksLabels : Topology → NodePlace → ℕ → Call → Trees → Ends → Type 0
LacksLabels core place now call old ends =
    (own : Core) → IsCoreOf core.nodes core.links own → label_step (place_in place own) now (part_of old ends.up) call ≡ None

-- the message has a spelling: one that says nothing of a multipoint LSP always has
abbrev pub IsSpelled : LabelMessage → Type 0
IsSpelled (messages.Ignored kind) = Unit {0}
IsSpelled other = IsWritable other
