use Rattle.core_paths.specs.Tables.{IsCostTable, IsStepTable}
use Rattle.core_paths.proofs.tables.all_rows.Given as goal

abbrev pub invariant-loop-to : goal.invariant-loop-to
invariant-loop-to l = record {
  costs : IsCostTable l.links l.nodes l.to l.costs.items;
  nexts : IsStepTable l.links l.nodes l.to l.nexts.items;
}
