use Rattle.std.proofs.Common.{ap, ◌∙◌}
use Rattle.std.specs.FinMap.{from_sorted, remove}
use Rattle.selective.specs.Leaves.{Leaf, Routes, key_of}
use Rattle.selective.specs.Order.{route_cmp, route_total}
use Rattle.selective.proofs.OrderLemmas.{route_exact}
use Rattle.mv_base.proofs.SortedMaps.{removed}
use Rattle.selective.proofs.WaitLemmas.{rest_noted}
use Rattle.selective.proofs.leaf.LeafTunnels.forget.Goals as goal

pub returns : goal.returns
returns c =
    let key = key_of c.args.peer c.args.rd c.args.pattern in
    let routes =
    removed route_cmp route_total route_exact c.self.inside.routes.entries c.remove.new.self.entries key c.self.invariant.0 c.remove.ensures.ordered
    c.remove.ensures.updates.0 in
    ap (λ (r : Routes). record { delay = c.self.inside.delay; routes = r }) routes
    ∙ ap (λ (l : Leaf). record { delay = l.delay; routes = remove l.routes key }) c.self.view_is

pub invariant_of-self : goal.invariant_of-self
invariant_of-self c = (
  c.remove.ensures.ordered,
  rest_noted c.self.inside.earliest (from_sorted c.self.inside.routes.entries) (from_sorted c.remove.new.self.entries)
      (key_of c.args.peer c.args.rd c.args.pattern) c.self.invariant.1
      (removed route_cmp route_total route_exact c.self.inside.routes.entries c.remove.new.self.entries
      (key_of c.args.peer c.args.rd c.args.pattern) c.self.invariant.0 c.remove.ensures.ordered c.remove.ensures.updates.0),
)
