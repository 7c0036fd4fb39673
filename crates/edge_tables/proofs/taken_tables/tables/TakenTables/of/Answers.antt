use Rattle.std.proofs.Common.{List, sym, subst}
use Rattle.edge_tables.specs.taken_tables.Slots.{tables_of}
use Rattle.edge_tables.specs.taken_tables.Tables.{AreSpelled}
use Rattle.edge_tables.proofs.taken_tables.MapLemmas.{none_spelled}
use Rattle.edge_tables.proofs.taken_tables.tables.TakenTables.of.Goals as goal

pub invariant_of-result : goal.invariant_of-result
invariant_of-result c = subst (λ (slots : List _). AreSpelled (tables_of slots)) (sym c.new.ensures.empty) none_spelled
