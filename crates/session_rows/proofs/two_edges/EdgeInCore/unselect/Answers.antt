use Rattle.std.proofs.Common.{subst, sym}
use Rattle.edge_routes.specs.edge_home.Home.{Home}
use Rattle.session_rows.specs.Roles.{IsEdgeInCore}
use Rattle.session_rows.proofs.two_edges.EdgeInCore.unselect.Goals as goal

pub invariant_of-self : goal.invariant_of-self
invariant_of-self c =
    let inside = c.self.inside in
    subst (λ (home : Home). IsEdgeInCore home inside.core.nodes inside.role.peer inside.role.vrf inside.role.iface)
    (sym c.call.ensures.answers.home) c.self.invariant
