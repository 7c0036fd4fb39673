use Rattle.std.proofs.Common.{sym, ◌∙◌}
use Rattle.edge_routes.proofs.route_order.FrontLemmas.{front_decides}
use Rattle.edge_routes.proofs.route_order.key.compare_fronted.Goals as goal

pub returns-else-is_eq : goal.returns-else-is_eq
returns-else-is_eq c =
    front_decides c.args.own.now c.args.other.now c.args.front.now c.args.other_front.now c.compare_fronts-order.result c.requires.own
    c.requires.other c.compare_fronts-order.ensures (sym c.is_eq.ensures ∙ c.if-is_eq.false)
