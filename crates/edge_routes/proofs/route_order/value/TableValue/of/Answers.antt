use Rattle.edge_routes.proofs.route_order.ValueLemmas.{is_kept}
use Rattle.edge_routes.proofs.route_order.value.TableValue.of.Goals as goal

pub invariant_of-result : goal.invariant_of-result
invariant_of-result c =
    is_kept c.args.next_hop c.args.comms.now c.in_places.result c.args.pmsi c.if-comms-gt-COMM_LIMIT.false c.in_places.ensures c.requires
