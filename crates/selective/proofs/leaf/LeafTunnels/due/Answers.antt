use Rattle.std.proofs.Common.{List, map, count_by, sym, ap, ◌∙◌}
use Rattle.std.specs.FinMap.{values}
use Rattle.selective.specs.declared.route_key.Learned.{Learned}
use Rattle.selective.specs.declared.route_key.RouteKey.{RouteKey}
use Rattle.selective.specs.Leaves.{Leaf, is_waiting}
use Rattle.selective.specs.Order.{route_cmp}
use Rattle.mv_base.proofs.SortedMaps.{entries_of}
use Rattle.selective.proofs.leaf.LeafTunnels.due.Goals as goal

pub returns : goal.returns
returns c =
    c.count_waiting.ensures
    ∙ (ap (λ (es : List (RouteKey × Learned)). count_by (is_waiting c.self.inside.delay c.args.now) (map (λ (e : RouteKey × Learned). e.1) es))
    (sym (entries_of route_cmp c.self.inside.routes.entries c.self.invariant.0))
    ∙ ap (λ (l : Leaf). count_by (is_waiting l.delay c.args.now) (values l.routes)) c.self.view_is)
