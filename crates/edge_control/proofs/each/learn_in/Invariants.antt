use Rattle.std.proofs.Common.{◌≡◌, length, Option}
use Rattle.mv_base.specs.core_walks.Core.{Core}
use Rattle.edge_defs.specs.Edge.{TakenRoute}
use Rattle.edge_defs.specs.Place.{vrfs_from}
use Rattle.edge_control.specs.Taking.{Says, learning, turned}
use Rattle.edge_control.proofs.each.learn_in.Given as goal

abbrev pub invariant-loop-place : goal.invariant-loop-place
invariant-loop-place l = record {
  long : length l.trees.items ≡ length l.fn.trees.items;
  each : (core : Core) (taken : Option TakenRoute) → Says l.new taken
      → l.trees.items ≡ turned l.place (learning l.home core l.peer l.now l.key taken) (vrfs_from l.home.me 0 l.home.scenario.vrfs) l.fn.trees.items;
}
