use Rattle.std.proofs.Common.{◌≡◌, length}
use Rattle.mv_base.specs.core_walks.Core.{Core}
use Rattle.edge_control.specs.Taking.{losing_rows}
use Rattle.edge_control.proofs.lost.forget_entries.Given as goal

abbrev pub invariant-loop-key : goal.invariant-loop-key
invariant-loop-key l = record {
  long : length l.trees.items ≡ length l.fn.trees.items;
  each : (core : Core) → losing_rows l.home core l.peer l.trees.items l.key-iterator
      ≡ losing_rows l.home core l.peer l.fn.trees.items l.initial.key-iterator;
}
