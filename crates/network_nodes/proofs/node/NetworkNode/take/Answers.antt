use Rattle.std.proofs.Common.{sym, subst, Result}
use Rattle.edge_core.specs.declared.fault.EdgeFault.{EdgeFault}
use Rattle.scenario_defs.specs.declared.event.Kind.{Kind}
use Rattle.scenario_defs.specs.declared.event.Kind.TheVariants as kinds
use Rattle.network_nodes.specs.Answers.{AnswersOctets}
use Rattle.network_nodes.specs.NodeView.{MayBePeer}
use Rattle.network_nodes.specs.declared.node.NetworkNode.{NetworkNode}
use Rattle.network_nodes.specs.declared.node.NetworkNode.TheVariants as nodes
use Rattle.network_nodes.proofs.OctetLemmas.{core_octets, edge_octets}
use Rattle.network_nodes.proofs.node.NetworkNode.take.Goals as goal

pub returns-in-Edge : goal.returns-in-Edge
returns-in-Edge c =
    subst (λ (old : NetworkNode). AnswersOctets c.args.core.now c.args.now c.args.kind c.args.from c.args.bytes.now old
    (nodes.Edge c.take_at_edge.new.edge) c.take_at_edge.result) (sym c.in-Edge.is)
    (edge_octets c.args.core.now c.args.now c.args.kind c.args.from c.args.bytes.now c.in-Edge.edge c.take_at_edge.new.edge c.take_at_edge.result
    c.take_at_edge.ensures)

pub returns-in-CoreNode : goal.returns-in-CoreNode
returns-in-CoreNode c =
    subst (λ (old : NetworkNode). AnswersOctets c.args.core.now c.args.now c.args.kind c.args.from c.args.bytes.now old
    (nodes.CoreNode c.take_ldp.new.self) c.told.result) (sym c.in-CoreNode.is)
    (subst (λ (kind : Kind). AnswersOctets c.args.core.now c.args.now kind c.args.from c.args.bytes.now (nodes.CoreNode c.in-CoreNode.core_node)
    (nodes.CoreNode c.take_ldp.new.self) c.told.result)
    (sym (subst (λ (node : NetworkNode). MayBePeer node c.args.kind c.args.from) c.in-CoreNode.is c.requires.peer))
    (subst (λ (r : Result (Unit {0}) EdgeFault).
    AnswersOctets c.args.core.now c.args.now kinds.Ldp c.args.from c.args.bytes.now (nodes.CoreNode c.in-CoreNode.core_node)
    (nodes.CoreNode c.take_ldp.new.self) r)
    (sym c.told.ensures)
    (core_octets c.args.core.now c.args.now c.args.from c.args.bytes.now c.in-CoreNode.core_node c.take_ldp.new.self c.take_ldp.result
    c.take_ldp.ensures)))
