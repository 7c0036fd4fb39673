use Rattle.std.proofs.Common.{false, ap, ◌∙◌}
use Rattle.std.specs.FinMap.{from_sorted, insert}
use Rattle.selective.specs.declared.route_key.Learned.{Learned}
use Rattle.selective.specs.Leaves.{Leaf, Routes, key_of}
use Rattle.selective.specs.Order.{route_cmp, route_total}
use Rattle.selective.proofs.OrderLemmas.{route_exact}
use Rattle.mv_base.proofs.SortedMaps.{inserted}
use Rattle.selective.proofs.WaitLemmas.{put_noted}
use Rattle.selective.proofs.leaf.LeafTunnels.learn.Goals as goal

pub returns-clause-learned : goal.returns-clause-learned
returns-clause-learned c =
    let learned : Learned = record { fec = c.args.fec; since = c.args.now; run = false } in
    let key = key_of c.args.peer c.args.rd c.args.pattern in
    let routes =
    inserted route_cmp route_total route_exact c.self.inside.routes.entries c.insert.new.self.entries key learned c.self.invariant.0
    c.insert.ensures.ordered c.in_ok-insert.ensures.updates.0 in
    ap (λ (r : Routes). record { delay = c.self.inside.delay; routes = r }) routes
    ∙ ap (λ (l : Leaf). record { delay = l.delay; routes = insert l.routes key learned }) c.self.view_is

pub invariant_of-self-2 : goal.invariant_of-self-2
invariant_of-self-2 c =
    let learned : Learned = record { fec = c.args.fec; since = c.args.now; run = false } in
    let key = key_of c.args.peer c.args.rd c.args.pattern in (
      c.insert.ensures.ordered,
      put_noted c.self.inside.earliest c.earliest_with-earliest.result (from_sorted c.self.inside.routes.entries) (from_sorted c.insert.new.self.entries)
          key learned c.self.invariant.1 c.earliest_with-earliest.ensures
          (inserted route_cmp route_total route_exact c.self.inside.routes.entries c.insert.new.self.entries key learned c.self.invariant.0
          c.insert.ensures.ordered c.in_ok-insert.ensures.updates.0),
    )
