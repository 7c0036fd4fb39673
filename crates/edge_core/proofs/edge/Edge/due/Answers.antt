use Rattle.std.proofs.Common.{◌≡◌, min, ap, subst, ◌∙◌}
use Rattle.label_defs.proofs.UseLemmas.{map_none}
use Rattle.mldp_node.specs.NodeData.{cause}
use Rattle.edge_defs.specs.Due.{due}
use Rattle.edge_routes.specs.edge_home.Home.{place_of}
use Rattle.edge_core.specs.State.{data_of, home_of}
use Rattle.edge_core.specs.View.{EdgeView}
use Rattle.edge_core.proofs.DueLemmas.{all_due, most}
use Rattle.edge_core.proofs.edge.Edge.due.Goals as goal

pub returns : goal.returns
returns c = λ unspent walks.
    let parts = c.self.inside.parts in
    let live = c.self.invariant (map_none cause c.self.inside.spent (ap (λ (e : EdgeView). e.spent) c.self.view_is ∙ unspent)) in
    subst (λ (e : EdgeView). c.saturating_add.result ≡ min (due (place_of (home_of e) walks) c.args.now (data_of e)) most) c.self.view_is
    (all_due parts.routing parts.labels parts.streams live c.home.ensures.sound walks c.args.now parts.raised c.due.result c.due-2.result
    c.saturating_add.result (c.due.ensures live.unspent walks) c.due-2.ensures c.saturating_add.ensures)
