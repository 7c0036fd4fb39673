use Rattle.std.proofs.Common.{◌∙◌, Some, ap, subst, sym}
use Rattle.mldp_node.specs.NodeData.{NodeData}
use Rattle.network_nodes.specs.declared.node.NetworkNode.{NetworkNode}
use Rattle.network_acts.specs.control_plane.Queries.{IsCoreThere, IsNodeThere}
use Rattle.network_acts.proofs.control_plane.PlaceLemmas.{beyond_is_outside, edge_is_edge}
use Rattle.network_acts.proofs.control_plane.QueryLemmas.{core_there}
use Rattle.network_acts.proofs.control_plane.plane.ControlPlane.core_node.Goals as goal

pub returns-in-Some-CoreNode-clause-is : goal.returns-in-Some-CoreNode-clause-is
returns-in-Some-CoreNode-clause-is c = λ at is.
    let there = subst (IsNodeThere at c.args.n) c.in-Some-CoreNode.field-0-is (c.in-Some-CoreNode.ensures.is at is) in
    subst (λ (labels : NodeData). IsCoreThere at c.args.n labels) (sym (c.label_node.ensures.goes_on there.unspent))
    (core_there at c.args.n c.args.self.now c.in-Some-CoreNode.core is there)

pub returns-in-Some-Edge-clause-none : goal.returns-in-Some-Edge-clause-none
returns-in-Some-Edge-clause-none c = λ none scenario placed.
    edge_is_edge scenario c.args.self.now.nodes c.args.n placed c.in-Some-Edge.field-0-0
    (c.in-Some-Edge.ensures.at ∙ ap (λ (node : NetworkNode). Some node) c.in-Some-Edge.field-0-is)

pub returns-in-None-clause-none : goal.returns-in-None-clause-none
returns-in-None-clause-none c =
    λ none scenario placed within. absurd (beyond_is_outside scenario c.args.self.now.nodes c.args.n placed (c.found.ensures.none c.in-None.is)
    within)
