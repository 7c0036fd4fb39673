use Rattle.std.proofs.Common.{◌∙◌}
use Rattle.std.specs.Ordering.{nat_cmp}
use Rattle.std.specs.Cmp.Lexicographic.{slice_cmp}
use Rattle.edge_routes.proofs.route_order.OrderLemmas.{three_told, vpn_cmp}
use Rattle.edge_routes.proofs.route_order.key.compare_vpn.Goals as goal

pub returns : goal.returns
returns c =
    let rest = c.cmp-2.ensures ∙ λ i. slice_cmp nat_cmp (c.prefix_octets-octets.ensures i) (c.prefix_octets-others.ensures i) in
    three_told c.then-2.result c.then.result c.cmp.result c.compare_distinguishers.result c.cmp-2.result _ _ _ c.then-2.ensures c.then.ensures
    c.cmp.ensures c.compare_distinguishers.ensures rest
    ∙ vpn_cmp c.args.rd.now c.args.other_rd.now c.args.prefix.now c.args.other.now c.requires.own c.requires.other
