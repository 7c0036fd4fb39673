use Rattle.network_acts.specs.control_plane.PlaneView.{PlaneView}
use Rattle.network_acts.proofs.control_plane.QueryLemmas.{found_at, stands_at}
use Rattle.network_acts.proofs.control_plane.plane.ControlPlane.found.Goals as goal

pub returns-clause-is : goal.returns-clause-is
returns-clause-is c =
    let inside = c.self.inside in
    let plane : PlaneView =
    record { nodes = inside.nodes.items; ways = inside.ways; transit = inside.transit; core = inside.core; clock = inside.clock } in
    found_at plane c.args.self.now c.self.view_is c.args.n c.as_slice.result.now c.as_slice.ensures.value c.from.result c.from.ensures c.get.result
    c.get.ensures.lookup

pub returns-clause-at : goal.returns-clause-at
returns-clause-at c =
    let inside = c.self.inside in
    let plane : PlaneView =
    record { nodes = inside.nodes.items; ways = inside.ways; transit = inside.transit; core = inside.core; clock = inside.clock } in
    stands_at plane c.args.self.now c.self.view_is c.args.n c.as_slice.result.now c.as_slice.ensures.value c.from.result c.from.ensures c.get.result
    c.get.ensures.lookup
