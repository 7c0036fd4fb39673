use Rattle.std.proofs.Common.{sym, ap, subst, Result}
use Rattle.edge_core.specs.declared.fault.EdgeFault.{EdgeFault}
use Rattle.scenario_defs.specs.declared.event.Kind.{Kind}
use Rattle.label_defs.specs.Steps as labels
use Rattle.edge_defs.specs.Steps.{Noticed, own_label_call}
use Rattle.network_nodes.specs.Answers.{Answers, after}
use Rattle.network_nodes.specs.NodeView.{MayBePeer}
use Rattle.network_nodes.specs.declared.node.NetworkNode.{NetworkNode}
use Rattle.network_nodes.specs.declared.node.NetworkNode.TheVariants as nodes
use Rattle.network_nodes.proofs.AnswerLemmas.{core_call, edge_call}
use Rattle.network_nodes.proofs.node.NetworkNode.noticed.Goals as goal

pub returns-in-Edge-clause-answers : goal.returns-in-Edge-clause-answers
returns-in-Edge-clause-answers c =
    subst (λ (old : NetworkNode). Answers c.args.core.now c.args.now (after (Noticed c.args.kind c.args.peer)) old (nodes.Edge c.call.new.self)
    c.call.result) (sym c.in-Edge.is)
    (edge_call c.args.core.now c.args.now (Noticed c.args.kind c.args.peer) c.in-Edge.edge c.call.new.self c.call.result
    c.call.ensures.answers)

pub returns-in-CoreNode-clause-answers : goal.returns-in-CoreNode-clause-answers
returns-in-CoreNode-clause-answers c =
    subst (λ (old : NetworkNode). Answers c.args.core.now c.args.now (after (Noticed c.args.kind c.args.peer)) old
    (nodes.CoreNode c.noticed.new.self) c.told.result) (sym c.in-CoreNode.is)
    (subst (λ (r : Result (Unit {0}) EdgeFault). Answers c.args.core.now c.args.now (after (Noticed c.args.kind c.args.peer))
    (nodes.CoreNode c.in-CoreNode.core_node) (nodes.CoreNode c.noticed.new.self) r)
    (sym c.told.ensures)
    (core_call c.args.core.now c.args.now (Noticed c.args.kind c.args.peer) (labels.Noticed c.args.peer) c.in-CoreNode.core_node
    c.noticed.new.self c.noticed.result
    (ap (λ (kind : Kind). own_label_call (Noticed kind c.args.peer))
    (subst (λ (node : NetworkNode). MayBePeer node c.args.kind c.args.peer) c.in-CoreNode.is c.requires.peer))
    c.noticed.ensures.answers))
