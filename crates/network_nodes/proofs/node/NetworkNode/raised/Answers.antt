use Rattle.std.proofs.Common.{◌≡◌, sym, ap, subst, false, None, Result}
use Rattle.edge_core.specs.declared.fault.EdgeFault.{EdgeFault}
use Rattle.scenario_defs.specs.declared.event.Kind.{Kind}
use Rattle.label_defs.specs.Steps as labels
use Rattle.edge_defs.specs.Steps.{Raised, own_label_call}
use Rattle.network_nodes.specs.Answers.{Answers, after}
use Rattle.network_defs.specs.Counts.{is_end_up}
use Rattle.network_nodes.specs.NodeView.{MayBePeer, data_in, spent_in}
use Rattle.network_nodes.specs.declared.node.NetworkNode.{NetworkNode}
use Rattle.network_nodes.specs.declared.node.NetworkNode.TheVariants as nodes
use Rattle.network_nodes.proofs.AnswerLemmas.{core_call, edge_call, fits_raised}
use Rattle.network_nodes.proofs.node.NetworkNode.raised.Goals as goal

pub call-requires-clause-fits : goal.call-requires-clause-fits
call-requires-clause-fits c =
    fits_raised c.in-Edge.edge c.args.kind c.args.peer
    (subst (λ (node : NetworkNode). MayBePeer node c.args.kind c.args.peer) c.in-Edge.is c.requires.peer)
    (subst (λ (node : NetworkNode). spent_in node ≡ None → is_end_up c.args.kind (data_in node) c.args.peer ≡ false) c.in-Edge.is c.requires.down)

pub returns-in-Edge-clause-answers : goal.returns-in-Edge-clause-answers
returns-in-Edge-clause-answers c =
    subst (λ (old : NetworkNode). Answers c.args.core.now c.args.now (after (Raised c.args.kind c.args.peer)) old (nodes.Edge c.call.new.self)
    c.call.result) (sym c.in-Edge.is)
    (edge_call c.args.core.now c.args.now (Raised c.args.kind c.args.peer) c.in-Edge.edge c.call.new.self c.call.result c.call.ensures.answers)

pub returns-in-CoreNode-clause-answers : goal.returns-in-CoreNode-clause-answers
returns-in-CoreNode-clause-answers c =
    subst (λ (old : NetworkNode). Answers c.args.core.now c.args.now (after (Raised c.args.kind c.args.peer)) old
    (nodes.CoreNode c.raised.new.self) c.told.result) (sym c.in-CoreNode.is)
    (subst (λ (r : Result (Unit {0}) EdgeFault). Answers c.args.core.now c.args.now (after (Raised c.args.kind c.args.peer))
    (nodes.CoreNode c.in-CoreNode.core_node) (nodes.CoreNode c.raised.new.self) r)
    (sym c.told.ensures)
    (core_call c.args.core.now c.args.now (Raised c.args.kind c.args.peer) (labels.Raised c.args.peer) c.in-CoreNode.core_node
    c.raised.new.self c.raised.result
    (ap (λ (kind : Kind). own_label_call (Raised kind c.args.peer))
    (subst (λ (node : NetworkNode). MayBePeer node c.args.kind c.args.peer) c.in-CoreNode.is c.requires.peer))
    c.raised.ensures.answers))
