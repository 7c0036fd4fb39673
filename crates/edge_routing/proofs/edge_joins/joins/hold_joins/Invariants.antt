use Rattle.held_tables.specs.Holding.{AreToldAlike}
use Rattle.edge_routing.proofs.edge_joins.TurnLemmas.{Way}
use Rattle.edge_routing.proofs.edge_joins.joins.hold_joins.Given as goal

abbrev pub invariant-loop-join : goal.invariant-loop-join
invariant-loop-join l = record {
  held : Way l.control l.joins l.join-index l.fn.tables l.tables;
  told : AreToldAlike l.fn.tables l.tables;
}
