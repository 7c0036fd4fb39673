use Rattle.std.proofs.Common.{◌≡◌, ◌++◌, ◌||◌, map}
use Rattle.std.specs.List.{list_any}
use Rattle.selective.specs.declared.route_key.Learned.{Learned}
use Rattle.selective.specs.declared.route_key.RouteKey.{RouteKey}
use Rattle.selective.proofs.leaf.LeafTunnels.push_routes.Given as goal

abbrev pub invariant-loop-key : goal.invariant-loop-key
invariant-loop-key l = record {
  told : l.fecs ++ map (λ (e : RouteKey × Learned). e.1.fec) l._key-iterator ≡ l.initial.fecs
      ++ map (λ (e : RouteKey × Learned). e.1.fec) l.initial._key-iterator;
  ran : (l.run || list_any (λ (e : RouteKey × Learned). e.1.run) l._key-iterator)
      ≡ list_any (λ (e : RouteKey × Learned). e.1.run) l.initial._key-iterator;
}
