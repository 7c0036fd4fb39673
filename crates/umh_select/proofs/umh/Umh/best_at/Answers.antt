use Rattle.std.proofs.Common.{◌≡◌, List, [], map, None, refl, subst, sym, ap, ◌∙◌}
use Rattle.std.specs.FinMap.{entries}
use Rattle.std.specs.Ordering.{is_gt}
use Rattle.umh_select.specs.declared.key.RouteKey.{RouteKey}
use Rattle.umh_select.specs.Order.{key_cmp}
use Rattle.umh_select.proofs.OrderLemmas.{forward}
use Rattle.umh_select.proofs.RangeLemmas.{between}
use Rattle.std.specs.Map.Iter.{deref_pair}
use Rattle.std.proofs.lemmas.Map.Iter.{rest_all}
use Rattle.umh_select.specs.declared.route.Held.{Held}
use Rattle.umh_select.specs.Routes.{AreFromNodes, Routes, at_length, best_of, candidate_of, measure}
use Rattle.umh_select.proofs.ChosenLemmas.{learned_inner, of_core}
use Rattle.umh_select.proofs.umh.Umh.best_at.Goals as goal

pub range-key-items-requires : goal.range-key-items-requires
range-key-items-requires c =
    (λ i. is_gt (key_cmp ((c.new-ends.ensures.start ∙ c.end.ensures) i) ((c.new-ends.ensures.end ∙ c.end-2.ensures) i)))
    ∙ forward c.args.source c.args.bits

pub loop-key-init : goal.loop-key-init
loop-key-init c =
    let gives : c.into_iter-key-iterator.result ≡ c.range-key-items.result = cc (c.into_iter-key-iterator.ensures.into_iter_gives) in
    let listed : c.into_iter-key-iterator.result ≡ at_length c.args.source c.args.bits (entries c.args.self.now.learned) =
    between c.args.source c.args.bits c.new-ends.result.start c.new-ends.result.end (c.new-ends.ensures.start ∙ c.end.ensures)
    (c.new-ends.ensures.end ∙ c.end-2.ensures)
    c.self.inside.learned.entries c.self.invariant.0 (learned_inner c.self.inside.lengths c.self.inside.learned.entries c.self.invariant.2)
    c.args.self.now.learned (ap (λ (r : Routes). r.learned) c.self.view_is) c.into_iter-key-iterator.result
    (gives ∙ c.range-key-items.ensures.between c.new-ends.ensures.exhausted) in
    record {
      peers = subst (λ (l : List (RouteKey × Held)). AreFromNodes c.args.core.now.nodes l) (sym listed)
          (of_core c.args.core.now.nodes c.args.source c.args.bits c.args.self.now.learned c.requires.peers);
      none = λ _. refl;
      best = λ _ _. refl;
    }

pub returns-clause-none : goal.returns-clause-none
returns-clause-none c =
    let gives : c.into_iter-key-iterator.result ≡ c.range-key-items.result = cc (c.into_iter-key-iterator.ensures.into_iter_gives) in
    let listed : c.into_iter-key-iterator.result ≡ at_length c.args.source c.args.bits (entries c.args.self.now.learned) =
    between c.args.source c.args.bits c.new-ends.result.start c.new-ends.result.end (c.new-ends.ensures.start ∙ c.end.ensures)
    (c.new-ends.ensures.end ∙ c.end-2.ensures)
    c.self.inside.learned.entries c.self.invariant.0 (learned_inner c.self.inside.lengths c.self.inside.learned.entries c.self.invariant.2)
    c.args.self.now.learned (ap (λ (r : Routes). r.learned) c.self.view_is) c.into_iter-key-iterator.result
    (gives ∙ c.range-key-items.ensures.between c.new-ends.ensures.exhausted) in
    let done : c.loop-key.key-iterator ≡ [] = rest_all deref_pair _ _ c.next.result c.in-None.is c.next.ensures.steps in
    λ none. sym (sym done ∙ (c.loop-key.invariant.none none ∙ listed))

pub returns-clause-best : goal.returns-clause-best
returns-clause-best c =
    let gives : c.into_iter-key-iterator.result ≡ c.range-key-items.result = cc (c.into_iter-key-iterator.ensures.into_iter_gives) in
    let listed : c.into_iter-key-iterator.result ≡ at_length c.args.source c.args.bits (entries c.args.self.now.learned) =
    between c.args.source c.args.bits c.new-ends.result.start c.new-ends.result.end (c.new-ends.ensures.start ∙ c.end.ensures)
    (c.new-ends.ensures.end ∙ c.end-2.ensures)
    c.self.inside.learned.entries c.self.invariant.0 (learned_inner c.self.inside.lengths c.self.inside.learned.entries c.self.invariant.2)
    c.args.self.now.learned (ap (λ (r : Routes). r.learned) c.self.view_is) c.into_iter-key-iterator.result
    (gives ∙ c.range-key-items.ensures.between c.new-ends.ensures.exhausted) in
    let done : c.loop-key.key-iterator ≡ [] = rest_all deref_pair _ _ c.next.result c.in-None.is c.next.ensures.steps in
    λ cost costs.
    ap (λ (l : List (RouteKey × Held)). best_of c.loop-key.best (map (candidate_of (measure c.args.self.now.rule cost c.args.named)) l)) (sym done)
    ∙ (c.loop-key.invariant.best cost costs
    ∙ ap (λ (l : List (RouteKey × Held)). best_of None (map (candidate_of (measure c.args.self.now.rule cost c.args.named)) l)) listed)
