use Rattle.std.proofs.Common.{ap, ◌∙◌}
use Rattle.mv_base.specs.declared.ids.NodeId.{NodeId}
use Rattle.vrf_words.specs.tree_defs.Flows.{chosen_for, is_from}
use Rattle.edge_control.specs.vrf_trees.vrf_flows.State.{flow_by_addrs}
use Rattle.edge_routing.proofs.edge_datagrams.CoreLemmas.{home_costs}
use Rattle.edge_routing.proofs.edge_datagrams.TunnelLemmas.{not_accepted, not_joined, tunnel_some}
use Rattle.edge_routing.proofs.edge_datagrams.ingress.tunnel_from.Goals as goal
use Rattle.edge_routing.proofs.edge_datagrams.ingress.tunnel_from.Goals.{else-accepts-via-then-accepts+else-joined_in, else-accepts-via-else-accepts}

pub returns-then-joined_in : goal.returns-then-joined_in
returns-then-joined_in c = λ walks is.
    let flow = flow_by_addrs c.args.source c.args.group in
    tunnel_some c.args.home.now walks c.args.tree.now c.args.from flow c.accepts.result c.joined_in.result c.tunnel_for.result
    (c.accepts.ensures (walks.cost c.me.result) (home_costs c.args.home.now c.args.core.now walks c.me.result c.requires.home c.requires.core is
    c.me.ensures)
    ∙ ap (λ (me : NodeId). is_from c.args.from (chosen_for c.args.tree.now.vrf.routes (walks.cost me) flow)) c.me.ensures)
    c.if-accepts.true c.joined_in.ensures c.if-joined_in.true (c.tunnel_for.ensures walks)

pub returns-else-accepts : goal.returns-else-accepts
returns-else-accepts c = λ walks is.
    let flow = flow_by_addrs c.args.source c.args.group in
    elim c.else-accepts.branch [
      | else-accepts-via-then-accepts+else-joined_in w ↦
          not_joined c.args.home.now walks c.args.tree.now c.args.from flow w.joined_in.result w.joined_in.ensures w.if-joined_in.false
      | else-accepts-via-else-accepts w ↦ not_accepted c.args.home.now walks c.args.tree.now c.args.from flow c.accepts.result
          (c.accepts.ensures (walks.cost c.me.result)
          (home_costs c.args.home.now c.args.core.now walks c.me.result c.requires.home c.requires.core is c.me.ensures)
          ∙ ap (λ (me : NodeId). is_from c.args.from (chosen_for c.args.tree.now.vrf.routes (walks.cost me) flow)) c.me.ensures)
          w.if-accepts.false
    ]
