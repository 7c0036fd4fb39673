use Rattle.std.proofs.Common.{◌∙◌}
use Rattle.std.specs.Ordering.{nat_cmp}
use Rattle.edge_routes.proofs.route_order.OrderLemmas.{two_told, mcast_cmp}
use Rattle.edge_routes.proofs.route_order.key.compare_mcast.Goals as goal

pub returns : goal.returns
returns c =
    let family = c.cmp-family.ensures ∙ λ i. nat_cmp (c.number.ensures i) (c.number-2.ensures i) in
    two_told c.then.result c.cmp-family.result c.compare_routes.result _ _ c.then.ensures family c.compare_routes.ensures
    ∙ mcast_cmp c.args.afi c.args.other_afi c.args.own.now c.args.other.now c.requires.own c.requires.other
