use Rattle.std.proofs.Common.{◌∙◌}
use Rattle.std.specs.Ordering.{nat_cmp}
use Rattle.edge_routes.proofs.route_order.OrderLemmas.{three_told, unicast_cmp}
use Rattle.edge_routes.proofs.route_order.key.compare_unicast.Goals as goal

pub returns : goal.returns
returns c =
    let family = c.cmp-family.ensures ∙ λ i. nat_cmp (c.prefix_number.ensures i) (c.prefix_number-2.ensures i) in
    three_told c.then-2.result c.then.result c.cmp-family.result c.compare_vpn-text.result c.compare_addrs.result _ _ _ c.then-2.ensures
    c.then.ensures family c.compare_vpn-text.ensures c.compare_addrs.ensures
    ∙ unicast_cmp c.args.rd.now c.args.other_rd.now c.args.prefix.now c.args.other.now c.requires.own c.requires.other
