use Rattle.edge_tables.specs.Slots.{IsSilentAt}
use Rattle.edge_tables.proofs.ActivityLemmas.{AllBefore}
use Rattle.edge_tables.proofs.tables.are_silent.Given as goal

abbrev pub invariant-loop-slot : goal.invariant-loop-slot
invariant-loop-slot l = AllBefore IsSilentAt l.fn.slots l.slot-index
