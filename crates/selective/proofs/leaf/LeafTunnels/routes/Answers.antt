use Rattle.std.proofs.Common.{sym, ap, ◌∙◌}
use Rattle.std.specs.FinMap.{entries}
use Rattle.mv_base.proofs.SortedMaps.{entries_of}
use Rattle.selective.specs.Leaves.{Leaf}
use Rattle.selective.specs.Order.{route_cmp}
use Rattle.selective.proofs.leaf.LeafTunnels.routes.Goals as goal

pub returns : goal.returns
returns c = sym (entries_of route_cmp c.self.inside.routes.entries c.self.invariant.0) ∙ ap (λ (l : Leaf). entries l.routes) c.self.view_is
