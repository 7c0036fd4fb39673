use Rattle.std.proofs.Common.{None}
use Rattle.edge_tables.specs.taken_tables.Slots.{taken_in}
use Rattle.edge_tables.proofs.taken_tables.WaitLemmas.{none_noted}
use Rattle.edge_tables.proofs.taken_tables.table.TakenTable.of.Goals as goal

pub invariant_of-result : goal.invariant_of-result
invariant_of-result c = none_noted None (taken_in c.of.result) c.of.ensures
