use Rattle.std.proofs.Common.{refl, sym, subst, OnOk, Result}
use Rattle.mldp_node.specs.NodeData.{WaitsTowardRootsOf}
use Rattle.edge_core.specs.declared.fault.EdgeFault.{EdgeFault}
use Rattle.label_defs.specs.Steps as labels
use Rattle.edge_defs.specs.Steps.{Rerouted}
use Rattle.network_nodes.specs.Answers.{Answers, after}
use Rattle.network_nodes.specs.declared.node.NetworkNode.{NetworkNode}
use Rattle.network_nodes.specs.declared.node.NetworkNode.TheVariants as nodes
use Rattle.network_nodes.proofs.AnswerLemmas.{core_call, edge_call, told_ok}
use Rattle.network_nodes.proofs.node.NetworkNode.rerouted.Goals as goal

pub returns-in-Edge-clause-answers : goal.returns-in-Edge-clause-answers
returns-in-Edge-clause-answers c =
    subst (λ (old : NetworkNode). Answers c.args.core.now c.args.now (after Rerouted) old (nodes.Edge c.call.new.self) c.call.result)
    (sym c.in-Edge.is)
    (edge_call c.args.core.now c.args.now Rerouted c.in-Edge.edge c.call.new.self c.call.result c.call.ensures.answers)

pub returns-in-CoreNode-clause-answers : goal.returns-in-CoreNode-clause-answers
returns-in-CoreNode-clause-answers c =
    subst (λ (old : NetworkNode). Answers c.args.core.now c.args.now (after Rerouted) old (nodes.CoreNode c.rerouted.new.self)
    c.told.result) (sym c.in-CoreNode.is)
    (subst (λ (r : Result (Unit {0}) EdgeFault). Answers c.args.core.now c.args.now (after Rerouted) (nodes.CoreNode c.in-CoreNode.core_node)
    (nodes.CoreNode c.rerouted.new.self) r)
    (sym c.told.ensures)
    (core_call c.args.core.now c.args.now Rerouted labels.Rerouted c.in-CoreNode.core_node c.rerouted.new.self
    c.rerouted.result refl c.rerouted.ensures.answers))

pub returns-in-Edge-clause-toward : goal.returns-in-Edge-clause-toward
returns-in-Edge-clause-toward c = c.call.ensures.toward

pub returns-in-CoreNode-clause-toward : goal.returns-in-CoreNode-clause-toward
returns-in-CoreNode-clause-toward c =
    subst (λ (r : Result (Unit {0}) EdgeFault). OnOk r (WaitsTowardRootsOf c.args.core.now c.rerouted.new.self.labels))
    (sym c.told.ensures)
    (told_ok (WaitsTowardRootsOf c.args.core.now c.rerouted.new.self.labels) c.rerouted.result
    c.rerouted.ensures.toward)
