use Rattle.std.proofs.Common.{subst, sym}
use Rattle.network_acts.specs.control_plane.Acted.{IsIn, IsSome, IsWithin}
use Rattle.network_acts.specs.control_plane.PlaneView.{PlaneView}
use Rattle.network_acts.proofs.control_plane.OwnLemmas.{node_there}
use Rattle.network_acts.proofs.control_plane.QueryLemmas.{there}
use Rattle.network_acts.proofs.control_plane.plane.ControlPlane.node.Goals as goal

pub returns : goal.returns
returns c = λ at within is.
    let inside = c.self.inside in
    let plane : PlaneView =
    record { nodes = inside.nodes.items; ways = inside.ways; transit = inside.transit; core = inside.core; clock = inside.clock } in
    let own = subst (IsIn at) (sym c.self.view_is) is in
    there at c.args.n plane c.index.result.now within own
    (node_there (IsWithin c.args.n) c.args.n (λ other fits. fits) plane (subst (IsSome (IsWithin c.args.n)) (sym c.self.view_is) c.requires)
    c.from.result c.from.ensures c.index.result.now c.index.result.now
    c.index.ensures at within own)
