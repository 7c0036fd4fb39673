use Rattle.std.proofs.Common.{◌≡◌, ℕ, map, None}
use Rattle.mv_base.specs.declared.ids.NodeId.{NodeId}
use Rattle.umh_select.specs.Routes.{AreCosts, AreFromNodes, best_of, candidate_of, measure}
use Rattle.umh_select.proofs.umh.Umh.best_at.Given as goal

abbrev pub invariant-loop-key : goal.invariant-loop-key
invariant-loop-key l = record {
  peers : AreFromNodes l.core.nodes l.key-iterator;
  none : l.best ≡ None → l.key-iterator ≡ l.initial.key-iterator;
  best : (cost : NodeId → ℕ) → AreCosts l.core l.me cost
      → best_of l.best (map (candidate_of (measure l.self.rule cost l.named)) l.key-iterator)
      ≡ best_of l.initial.best (map (candidate_of (measure l.self.rule cost l.named)) l.initial.key-iterator);
}
