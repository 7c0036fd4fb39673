use Rattle.std.proofs.Common.{◌≡◌, Some, ap, slice_get, subst, ◌∙◌}
use Rattle.network_nodes.specs.declared.node.NetworkNode.{NetworkNode}
use Rattle.network_acts.specs.control_plane.Queries.{IsNodeThere}
use Rattle.network_acts.proofs.control_plane.PlaceLemmas.{beyond_is_no_edge, core_is_no_edge}
use Rattle.network_acts.proofs.control_plane.QueryLemmas.{edge_there}
use Rattle.network_acts.proofs.control_plane.plane.ControlPlane.edge.Goals as goal

pub returns-in-Some-Edge-clause-is : goal.returns-in-Some-Edge-clause-is
returns-in-Some-Edge-clause-is c = λ at is.
    edge_there at c.args.n c.args.self.now c.in-Some-Edge.edge is
    (subst (IsNodeThere at c.args.n) c.in-Some-Edge.field-0-is (c.in-Some-Edge.ensures.is at is))

pub returns-in-Some-CoreNode-clause-none : goal.returns-in-Some-CoreNode-clause-none
returns-in-Some-CoreNode-clause-none c = λ none scenario placed.
    core_is_no_edge scenario c.args.self.now.nodes c.args.n placed c.in-Some-CoreNode.field-0-0
    (c.in-Some-CoreNode.ensures.at ∙ ap (λ (node : NetworkNode). Some node) c.in-Some-CoreNode.field-0-is)

pub returns-in-None-clause-none : goal.returns-in-None-clause-none
returns-in-None-clause-none c =
    λ none scenario placed. beyond_is_no_edge scenario c.args.self.now.nodes c.args.n placed (c.found.ensures.none c.in-None.is)
