use Rattle.std.proofs.Common.{map, drop}
use Rattle.edge_labels.specs.Calls.{AreMade, leaf_call}
use Rattle.edge_labels.proofs.row.change_all.Given as goal

abbrev pub invariant-loop-change : goal.invariant-loop-change
invariant-loop-change l = AreMade l.core l.now (map leaf_call l.changes) (map leaf_call (drop l.change-index l.changes)) l.initial.node l.node
