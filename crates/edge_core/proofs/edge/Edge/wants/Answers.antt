use Rattle.std.proofs.Common.{ap, ◌∙◌}
use Rattle.std.specs.FinSet.{FinSet}
use Rattle.label_defs.specs.Keys.{fec_cmp}
use Rattle.label_defs.specs.Members.{in_order}
use Rattle.label_defs.proofs.UseLemmas.{map_none}
use Rattle.mldp_node.specs.NodeData.{NodeData, cause}
use Rattle.edge_defs.specs.Tunnels.{leaves}
use Rattle.edge_routes.specs.edge_home.Home.{place_of}
use Rattle.edge_core.specs.State.{data_of, home_of}
use Rattle.edge_core.specs.View.{EdgeView}
use Rattle.edge_core.proofs.edge.Edge.wants.Goals as goal

pub returns : goal.returns
returns c = λ unspent walks.
    let live = c.self.invariant (map_none cause c.self.inside.spent (ap (λ (e : EdgeView). e.spent) c.self.view_is ∙ unspent)) in
    c.from_vec.ensures ∙ (c.in_ok-leaves.ensures
    ∙ ap (λ (s : FinSet fec_cmp). in_order s)
    (c.fib.ensures.leaves ∙ (ap (λ (l : NodeData). l.node.part.leaves) c.node.ensures
    ∙ (live.leaves walks ∙ ap (λ (e : EdgeView). leaves (place_of (home_of e) walks) (data_of e).control) c.self.view_is))))
