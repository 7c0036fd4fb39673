use Rattle.std.proofs.Common.{◌≡◌, ◌++◌, ◌||◌, List, [], map, append-nil, sym, ap, ◌∙◌}
use Rattle.std.specs.BTreeMap.Range.{entries_between}
use Rattle.std.specs.FinMap.{entries}
use Rattle.std.specs.List.{list_any}
use Rattle.std.specs.Map.Iter.{deref_pair}
use Rattle.std.specs.Ordering.{is_gt}
use Rattle.std.specs.declared.ops.Bound.TheVariants.{Included}
use Rattle.std.proofs.lemmas.Map.Iter.{rest_all}
use Rattle.selective.specs.declared.route_key.Learned.{Learned}
use Rattle.selective.specs.declared.route_key.RouteKey.{RouteKey}
use Rattle.selective.specs.Leaves.{Leaf, routes_at}
use Rattle.selective.specs.Order.{route_cmp}
use Rattle.selective.proofs.LeafLemmas.{or_false}
use Rattle.mv_base.proofs.SortedMaps.{entries_of}
use Rattle.selective.proofs.OrderLemmas.{forward, range_at}
use Rattle.selective.proofs.leaf.LeafTunnels.push_routes.Goals as goal

pub range-key-items-requires : goal.range-key-items-requires
range-key-items-requires c = (λ i. is_gt (route_cmp (c.new.ensures.start i) (c.new.ensures.end i))) ∙ forward c.args.peer c.args.pattern

pub returns-clause-pushed : goal.returns-clause-pushed
returns-clause-pushed c =
    let es = c.self.inside.routes.entries in
    let gives : c.into_iter-key-iterator.result ≡ c.range-key-items.result = cc (c.into_iter-key-iterator.ensures.into_iter_gives) in
    let listed : c.into_iter-key-iterator.result ≡ routes_at c.args.peer c.args.pattern (entries c.args.self.now.routes) =
    gives ∙ (c.range-key-items.ensures.between c.new.ensures.exhausted
    ∙ ((λ i. entries_between route_cmp (Included (c.new.ensures.start i)) (Included (c.new.ensures.end i)) es)
    ∙ (range_at c.args.peer c.args.pattern es
    ∙ (ap (routes_at c.args.peer c.args.pattern) (sym (entries_of route_cmp es c.self.invariant.0))
    ∙ ap (λ (l : Leaf). routes_at c.args.peer c.args.pattern (entries l.routes)) c.self.view_is)))) in
    let done : c.loop-key._key-iterator ≡ [] = rest_all deref_pair _ _ c.next.result c.in-None.is c.next.ensures.steps in
    sym (append-nil c.loop-key.fecs) ∙ (ap (λ (l : List (RouteKey × Learned)). c.loop-key.fecs ++ map (λ (e : RouteKey × Learned). e.1.fec) l)
    (sym done)
    ∙ (c.loop-key.invariant.told ∙ ap (λ (l : List (RouteKey × Learned)). c.args.fecs.now ++ map (λ (e : RouteKey × Learned). e.1.fec) l) listed))

pub returns-clause-run : goal.returns-clause-run
returns-clause-run c =
    let es = c.self.inside.routes.entries in
    let gives : c.into_iter-key-iterator.result ≡ c.range-key-items.result = cc (c.into_iter-key-iterator.ensures.into_iter_gives) in
    let listed : c.into_iter-key-iterator.result ≡ routes_at c.args.peer c.args.pattern (entries c.args.self.now.routes) =
    gives ∙ (c.range-key-items.ensures.between c.new.ensures.exhausted
    ∙ ((λ i. entries_between route_cmp (Included (c.new.ensures.start i)) (Included (c.new.ensures.end i)) es)
    ∙ (range_at c.args.peer c.args.pattern es
    ∙ (ap (routes_at c.args.peer c.args.pattern) (sym (entries_of route_cmp es c.self.invariant.0))
    ∙ ap (λ (l : Leaf). routes_at c.args.peer c.args.pattern (entries l.routes)) c.self.view_is)))) in
    let done : c.loop-key._key-iterator ≡ [] = rest_all deref_pair _ _ c.next.result c.in-None.is c.next.ensures.steps in
    sym (or_false c.loop-key.run) ∙ (ap (λ (l : List (RouteKey × Learned)). c.loop-key.run || list_any (λ (e : RouteKey × Learned). e.1.run) l)
    (sym done)
    ∙ (c.loop-key.invariant.ran ∙ ap (list_any (λ (e : RouteKey × Learned). e.1.run)) listed))
