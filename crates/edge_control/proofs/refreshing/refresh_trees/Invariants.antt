use Rattle.std.proofs.Common.{◌≡◌, ℕ, length}
use Rattle.std.specs.List.{AllZip}
use Rattle.mv_base.specs.declared.ids.NodeId.{NodeId}
use Rattle.umh_select.specs.Routes.{AreCosts}
use Rattle.edge_control.specs.Refreshing.{AreAllMoved}
use Rattle.edge_control.proofs.RefreshJoins.{Tells}
use Rattle.edge_control.proofs.RefreshTrees.{IsTurned, OnWay}
use Rattle.edge_control.proofs.refreshing.refresh_trees.Given as goal

abbrev pub invariant-loop-place : goal.invariant-loop-place
invariant-loop-place l = record {
  long : length l.trees.items ≡ length l.fn.trees.items;
  way : OnWay (IsTurned l.core l.me l.now) l.place l.fn.trees.items l.trees.items;
  joins : (cost : NodeId → ℕ) → AreCosts l.core l.me cost → AreAllMoved l.fn.trees.items l.trees.items l.all.joins.items;
  tunnels : AllZip (Tells l.all.tunnels.items) l.fn.trees.items l.trees.items;
}
