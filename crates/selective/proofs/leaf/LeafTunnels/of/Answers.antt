use Rattle.std.proofs.Common.{List, None, ap, ◌∙◌}
use Rattle.std.specs.FinMap.{from_sorted}
use Rattle.selective.specs.declared.route_key.Learned.{Learned}
use Rattle.selective.specs.declared.route_key.RouteKey.{RouteKey}
use Rattle.selective.specs.Leaves.{Routes}
use Rattle.selective.specs.Order.{route_cmp}
use Rattle.mv_base.proofs.SortedMaps.{empty_map}
use Rattle.selective.proofs.WaitLemmas.{none_noted}
use Rattle.selective.proofs.leaf.LeafTunnels.of.Goals as goal

pub returns : goal.returns
returns c =
    ap (λ (r : Routes). record { delay = c.args.delay; routes = r })
    (ap (λ (es : List (RouteKey × Learned)). from_sorted es) c.new.ensures.empty ∙ empty_map route_cmp)

pub invariant_of-result : goal.invariant_of-result
invariant_of-result c = (
  c.new.ensures.ordered,
  none_noted None (from_sorted c.new.result.entries)
      (ap (λ (es : List (RouteKey × Learned)). from_sorted es) c.new.ensures.empty ∙ empty_map route_cmp),
)
