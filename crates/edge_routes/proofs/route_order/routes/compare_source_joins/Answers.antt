use Rattle.edge_routes.proofs.route_order.OrderLemmas.{compared}
use Rattle.edge_routes.proofs.route_order.routes.compare_source_joins.Goals as goal

pub returns : goal.returns
returns c = compared _ _ _ _ _ _ _ c.compare_distinguishers.ensures c.in_ok-joins.ensures c.then.ensures
