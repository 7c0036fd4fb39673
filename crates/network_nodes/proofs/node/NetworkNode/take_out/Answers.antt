use Rattle.std.proofs.Common.{◌≡◌, sym, ap, subst, None}
use Rattle.mv_base.specs.core_walks.Core.{Core}
use Rattle.mldp_node.specs.NodeData.{IsWaitingTowardRoots}
use Rattle.mldp_node.proofs.NodeLemmas.{waits_as}
use Rattle.network_nodes.specs.core_node.View.{CoreView}
use Rattle.wire_laws.specs.AnyNodes.{AnyNode}
use Rattle.network_nodes.specs.NodeView.{IsNode, handed_by, labels_in, spent_in, waiting_in}
use Rattle.network_nodes.specs.declared.node.NetworkNode.{NetworkNode}
use Rattle.network_nodes.specs.declared.node.NetworkNode.TheVariants as nodes
use Rattle.network_nodes.proofs.NodeLemmas.{edge_octets_out, edge_rest}
use Rattle.network_nodes.proofs.node.NetworkNode.take_out.Goals as goal

pub returns-in-Edge-clause-octets : goal.returns-in-Edge-clause-octets
returns-in-Edge-clause-octets c =
    subst (λ (old : NetworkNode). spent_in old ≡ None → (state : AnyNode) → IsNode state old
    → c.take_out.result ≡ waiting_in state c.args.kind c.args.peer) (sym c.in-Edge.is)
    (λ none. edge_octets_out c.in-Edge.edge c.args.kind c.args.peer c.take_out.result (c.take_out.ensures.octets none))

pub returns-in-Edge-clause-rest : goal.returns-in-Edge-clause-rest
returns-in-Edge-clause-rest c =
    subst (λ (old : NetworkNode). spent_in old ≡ None → (state : AnyNode) → IsNode state old
    → IsNode (handed_by state c.args.kind c.args.peer) (nodes.Edge c.take_out.new.self)) (sym c.in-Edge.is)
    (λ none. edge_rest c.in-Edge.edge c.take_out.new.self c.args.kind c.args.peer (c.take_out.ensures.rest none))

pub returns-in-Edge-clause-waits : goal.returns-in-Edge-clause-waits
returns-in-Edge-clause-waits c =
    subst (λ (old : NetworkNode). (own : Core) → IsWaitingTowardRoots own (labels_in old) → IsWaitingTowardRoots own c.take_out.new.self.labels)
    (sym c.in-Edge.is)
    (waits_as c.in-Edge.edge.labels c.take_out.new.self.labels c.take_out.ensures.waits.0 c.take_out.ensures.waits.1)

pub returns-in-CoreNode-clause-waits : goal.returns-in-CoreNode-clause-waits
returns-in-CoreNode-clause-waits c =
    subst (λ (old : NetworkNode). (own : Core) → IsWaitingTowardRoots own (labels_in old)
    → IsWaitingTowardRoots own c.take_out-in-CoreNode.new.self.labels) (sym c.in-CoreNode.is)
    (waits_as c.in-CoreNode.core_node.labels c.take_out-in-CoreNode.new.self.labels
    (ap (λ (view : CoreView). view.labels.place) c.take_out-in-CoreNode.ensures.rest)
    (ap (λ (view : CoreView). view.labels.awaited) c.take_out-in-CoreNode.ensures.rest))
