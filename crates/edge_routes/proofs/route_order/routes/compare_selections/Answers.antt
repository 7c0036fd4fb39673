use Rattle.edge_routes.proofs.route_order.OrderLemmas.{compared}
use Rattle.edge_routes.proofs.route_order.routes.compare_selections.Goals as goal

pub returns : goal.returns
returns c = compared _ _ _ _ _ _ _ c.in_ok-sources.ensures c.in_ok-groups.ensures c.then.ensures
