use Rattle.std.proofs.Common.{ap, ◌∙◌}
use Rattle.mv_base.specs.declared.ids.NodeId.{NodeId}
use Rattle.edge_routes.specs.edge_home.Home.{Home}
use Rattle.vrf_words.specs.declared.tree_defs.flow.Origin.TheVariants as origins
use Rattle.vrf_words.specs.tree_defs.Flows.{outgoing}
use Rattle.edge_control.specs.vrf_trees.vrf_flows.State.{flow_by_addrs}
use Rattle.edge_routes.specs.edge_home.Home.{place_of}
use Rattle.edge_routing.specs.edge_datagrams.Datagrams.{branches_on, tunnel_from}
use Rattle.edge_routing.proofs.edge_datagrams.CoreLemmas.{home_costs, tree_core}
use Rattle.edge_routing.proofs.edge_datagrams.KeptLemmas.{branches_told, outs_told}
use Rattle.edge_routing.proofs.edge_datagrams.ingress.entering.Goals as goal

pub outgoing-requires-clause-peers : goal.outgoing-requires-clause-peers
outgoing-requires-clause-peers c =
    tree_core c.args.control.now c.home-home.ensures.sound c.args.core.now.nodes c.requires.core c.args.vrf c.tree-tree.result.now c.tree-tree.ensures

pub tunnel_from-tunnel-requires-clause-peers : goal.tunnel_from-tunnel-requires-clause-peers
tunnel_from-tunnel-requires-clause-peers c =
    tree_core c.args.control.now c.home-home.ensures.sound c.args.core.now.nodes c.requires.core c.args.vrf c.tree-tree.result.now c.tree-tree.ensures

pub returns-clause-outs : goal.returns-clause-outs
returns-clause-outs c = λ walks is own a id part.
    let flow = flow_by_addrs c.args.source c.args.group in
    let me = c.me.ensures ∙ ap (λ (home : Home). home.me) c.home-home.ensures.home in
    c.in_ok-outs.ensures (walks.cost c.me.result)
    (home_costs c.args.control.now.home c.args.core.now walks c.me.result c.home-home.ensures.sound.home c.requires.core is me)
    ∙ ap (λ (n : NodeId). outgoing c.tree-tree.result.now.vrf (walks.cost n) c.args.now flow (origins.Site c.args.site)) me
    ∙ outs_told c.args.control.now c.home-home.ensures.sound c.are_of_octets.ensures walks c.args.vrf c.tree-tree.result.now own c.tree-tree.ensures a
    id c.args.now c.args.site flow part

pub returns-clause-tunnel : goal.returns-clause-tunnel
returns-clause-tunnel c = λ walks is own a id part.
    let flow = flow_by_addrs c.args.source c.args.group in
    ap (branches_on part) (c.tunnel_from-tunnel.ensures walks is
    ∙ ap (λ (home : Home). tunnel_from (place_of home walks) c.tree-tree.result.now (origins.Site c.args.site) flow) c.home-home.ensures.home)
    ∙ branches_told c.args.control.now c.home-home.ensures.sound c.are_of_octets.ensures walks c.args.vrf c.tree-tree.result.now own
    c.tree-tree.ensures a id c.args.now c.args.site flow part
