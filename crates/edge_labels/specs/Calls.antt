-- The calls of a label node that one step of an edge makes, and what they answer.
use Rattle.std.specs.Prelude.{◌≡◌, ⊤, ℕ, true, List, [], ◌∷◌, ◌++◌, map, Option, None, Some, Result, Err, OnOk, if◌then◌else◌}
use Rattle.std.specs.FinMap as maps
use Rattle.std.specs.FinMap.{FinMap}
use Rattle.mv_base.specs.declared.ids.NodeId.{NodeId}
use Rattle.mv_base.specs.core_walks.Core.{Core, IsCoreOf}
use Rattle.mv_base.specs.core_walks.Topology.{Topology}
use Rattle.label_defs.specs.Keys.{fec_cmp}
use Rattle.label_defs.specs.Node.{LacksLabel, NodePlace}
use Rattle.label_defs.specs.Steps.{Call, Taken, Want, Unwant, Raised, Noticed, Timers, Rerouted}
use Rattle.node_laws.specs.edge_defs.Steps.{one_call}
use Rattle.mldp_node.specs.declared.fault.NodeFault.{NodeFault}
use Rattle.mldp_node.specs.declared.fault.NodeFault.TheVariants as faults
use Rattle.mldp_node.specs.NodeData.{NodeData, MayWant, cause}
use Rattle.mldp_node.specs.Parts.{IsSpelled, WaitTowardRoots, WaitedTowardRoots}
use Rattle.node_laws.specs.Rows.{all_called}
use Rattle.edge_labels.specs.declared.own_call.OwnCall.{OwnCall}
use Rattle.edge_labels.specs.declared.own_call.OwnCall.TheVariants as owns
use Rattle.edge_labels.specs.declared.changes.LeafChange.{LeafChange}

-- ---- calls

-- the label step of the call itself, if it has one
abbrev pub own_call : OwnCall → Option Call
own_call owns.None = None
own_call (owns.Take from message) = Some (Taken from message)
own_call (owns.Raise peer) = Some (Raised peer)
own_call (owns.Notice peer) = Some (Noticed peer)
own_call owns.Timers = Some Timers
own_call owns.Reroute = Some Rerouted

abbrev pub own_calls : OwnCall → List Call
own_calls own = one_call (own_call own)

-- the label step of a tree of which the edge becomes or stops being a leaf
abbrev pub leaf_call : LeafChange → Call
leaf_call change = if change.wanted then Want change.fec else Unwant change.fec

-- the calls of one step of an edge, in their order
abbrev pub calls_of : OwnCall → List LeafChange → List Call
calls_of own changes = own_calls own ++ map leaf_call changes

-- ---- which may be made

-- a message that is taken has a spelling, and an end that comes up is down at a node that goes on
abbrev pub MayMake : NodeData → OwnCall → Type 0
MayMake old (owns.Take from message) = IsSpelled message
MayMake old (owns.Raise peer) = old.node.spent ≡ None → maps.get old.node.part.ends peer ≡ None
MayMake old other = ⊤

-- a tree of which the edge becomes a leaf is one that the node may want
abbrev pub IsWantable : NodePlace → LeafChange → Type 0
IsWantable place change = change.wanted ≡ true → MayWant place change.fec

-- ---- what they answer

-- each tree that waits does so towards its root before the calls, unless the first of them is that next hops changed
abbrev pub WaitedBefore : List Call → NodePlace → Core → FinMap fec_cmp NodeId → Type 0
WaitedBefore [] place own waiting = WaitTowardRoots place own waiting
WaitedBefore (call ∷ more) place own waiting = WaitedTowardRoots call place own waiting

-- What calls one after another answer and leave. A spent node answers the same as before, and stays. Otherwise each call is a label
-- step, whichever way the core is told; `NoLabel` comes where one of them is none. Of want of memory nothing more is said than that
-- the node is spent. Each tree that waits does so towards its root still; where next hops changed first, it does so by the new ones.
pub record AnswersAll (core : Topology) (now : ℕ) (calls : List Call)
    (old new : NodeData) (result : Result (Unit {0}) NodeFault) : Type 0 where
  pub place : new.place ≡ old.place
  pub before : (fault : NodeFault) → old.node.spent ≡ Some (cause fault) → (result ≡ Err fault) × (new ≡ old)
  pub unspent : OnOk result (old.node.spent ≡ None)
  pub made : OnOk result ((own : Core) → IsCoreOf core.nodes core.links own → new.node ≡ all_called old.place own now old.node calls)
  pub goes_on : OnOk result (new.node.spent ≡ None)
  pub toward : OnOk result ((own : Core) → IsCoreOf core.nodes core.links own →
      WaitedBefore calls old.place own old.awaited → WaitTowardRoots old.place own new.awaited)
  pub lacks : result ≡ Err faults.NoLabel → old.node.spent ≡ None →
      (own : Core) → IsCoreOf core.nodes core.links own → (all_called old.place own now old.node calls).spent ≡ Some LacksLabel
  pub faults : (fault : NodeFault) → result ≡ Err fault → new.node.spent ≡ Some (cause fault)

-- Some calls were made, and others are left: what these answer is what all of them answer.
pub record AreMade (core : Topology) (now : ℕ) (calls left : List Call) (first old : NodeData) : Type 0 where
  pub place : old.place ≡ first.place
  pub unspent : old.node.spent ≡ None
  pub whole : (new : NodeData) (result : Result (Unit {0}) NodeFault) → AnswersAll core now left old new result →
      AnswersAll core now calls first new result
