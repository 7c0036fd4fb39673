use Rattle.std.proofs.Common.{refl, sym, subst, Result}
use Rattle.edge_core.specs.declared.fault.EdgeFault.{EdgeFault}
use Rattle.label_defs.specs.Steps as labels
use Rattle.edge_defs.specs.Steps.{Timers}
use Rattle.network_nodes.specs.Answers.{Answers, after}
use Rattle.network_nodes.specs.declared.node.NetworkNode.{NetworkNode}
use Rattle.network_nodes.specs.declared.node.NetworkNode.TheVariants as nodes
use Rattle.network_nodes.proofs.AnswerLemmas.{core_call, edge_call}
use Rattle.network_nodes.proofs.node.NetworkNode.timers.Goals as goal

pub returns-in-Edge-clause-answers : goal.returns-in-Edge-clause-answers
returns-in-Edge-clause-answers c =
    subst (λ (old : NetworkNode). Answers c.args.core.now c.args.now (after Timers) old (nodes.Edge c.call.new.self) c.call.result)
    (sym c.in-Edge.is)
    (edge_call c.args.core.now c.args.now Timers c.in-Edge.edge c.call.new.self c.call.result c.call.ensures.answers)

pub returns-in-CoreNode-clause-answers : goal.returns-in-CoreNode-clause-answers
returns-in-CoreNode-clause-answers c =
    subst (λ (old : NetworkNode). Answers c.args.core.now c.args.now (after Timers) old (nodes.CoreNode c.timers.new.self) c.told.result)
    (sym c.in-CoreNode.is)
    (subst (λ (r : Result (Unit {0}) EdgeFault). Answers c.args.core.now c.args.now (after Timers) (nodes.CoreNode c.in-CoreNode.core_node)
    (nodes.CoreNode c.timers.new.self) r)
    (sym c.told.ensures)
    (core_call c.args.core.now c.args.now Timers labels.Timers c.in-CoreNode.core_node c.timers.new.self c.timers.result refl
    c.timers.ensures.answers))
