use Rattle.std.proofs.Common.{◌≡◌, length}
use Rattle.mv_base.specs.core_walks.Core.{Core}
use Rattle.edge_defs.specs.Place.{vrfs_from}
use Rattle.edge_control.specs.Taking.{losing_row, turned}
use Rattle.edge_control.proofs.lost.forget_entry.Given as goal

abbrev pub invariant-loop-place : goal.invariant-loop-place
invariant-loop-place l = record {
  long : length l.trees.items ≡ length l.fn.trees.items;
  each : (core : Core) → l.trees.items ≡ turned l.place (losing_row l.home core l.peer (l.key, l.entry))
      (vrfs_from l.home.me 0 l.home.scenario.vrfs) l.fn.trees.items;
}
