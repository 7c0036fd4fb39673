use Rattle.edge_tables.specs.Slots.{IsPutAt}
use Rattle.edge_tables.proofs.ActivityLemmas.{AllBefore}
use Rattle.edge_tables.proofs.tables.are_put.Given as goal

abbrev pub invariant-loop-slot : goal.invariant-loop-slot
invariant-loop-slot l = AllBefore IsPutAt l.fn.slots l.slot-index
