use Rattle.std.proofs.Common.{◌≡◌, List, [], map, None, sym, ap, ◌∙◌}
use Rattle.std.specs.FinMap.{entries}
use Rattle.std.specs.Ordering.{is_gt}
use Rattle.umh_select.specs.declared.key.RouteKey.{RouteKey}
use Rattle.umh_select.specs.Order.{key_cmp}
use Rattle.umh_select.proofs.OrderLemmas.{forward}
use Rattle.umh_select.proofs.RangeLemmas.{between}
use Rattle.std.specs.Map.Iter.{deref_pair}
use Rattle.std.proofs.lemmas.Map.Iter.{rest_all}
use Rattle.umh_select.specs.declared.route.Held.{Held}
use Rattle.umh_select.specs.Edges.{edge_of, lowest_of}
use Rattle.umh_select.specs.Routes.{Routes, at_length}
use Rattle.umh_select.proofs.ChosenLemmas.{learned_inner}
use Rattle.umh_select.proofs.EdgeLemmas.{lowest_first}
use Rattle.umh_select.proofs.umh.Umh.edge_after.Goals as goal

pub range-key-items-requires : goal.range-key-items-requires
range-key-items-requires c =
    (λ i. is_gt (key_cmp ((c.new-ends.ensures.start ∙ c.end.ensures) i) ((c.new-ends.ensures.end ∙ c.end-2.ensures) i)))
    ∙ forward c.args.source c.args.bits

pub returns : goal.returns
returns c =
    let gives : c.into_iter-key-iterator.result ≡ c.range-key-items.result = cc (c.into_iter-key-iterator.ensures.into_iter_gives) in
    let listed : c.into_iter-key-iterator.result ≡ at_length c.args.source c.args.bits (entries c.args.self.now.learned) =
    between c.args.source c.args.bits c.new-ends.result.start c.new-ends.result.end (c.new-ends.ensures.start ∙ c.end.ensures)
    (c.new-ends.ensures.end ∙ c.end-2.ensures)
    c.self.inside.learned.entries c.self.invariant.0 (learned_inner c.self.inside.lengths c.self.inside.learned.entries c.self.invariant.2)
    c.args.self.now.learned (ap (λ (r : Routes). r.learned) c.self.view_is) c.into_iter-key-iterator.result
    (gives ∙ c.range-key-items.ensures.between c.new-ends.ensures.exhausted) in
    let done : c.loop-key.key-iterator ≡ [] = rest_all deref_pair _ _ c.next.result c.in-None.is c.next.ensures.steps in
    ap (λ (l : List (RouteKey × Held)). lowest_of c.args.after c.loop-key.best (map edge_of l)) (sym done)
    ∙ (c.loop-key.invariant
    ∙ (ap (λ (l : List (RouteKey × Held)). lowest_of c.args.after None (map edge_of l)) listed
    ∙ lowest_first c.args.after (at_length c.args.source c.args.bits (entries c.args.self.now.learned))))
