use Rattle.std.proofs.Common.{rules, ◌≡◌, ◌++◌, List, map, option_map, false, slice_index_or, sym, ap, ◌∙◌}
use Rattle.std.specs.FinMap.{entries}
use Rattle.mv_base.specs.declared.ids.SiteId.{SiteId}
use Rattle.choice_defs.specs.declared.known_route.KnownRoute.{KnownRoute}
use Rattle.choice_defs.specs.Choice.{best_route}
use Rattle.umh_select.specs.declared.key.RouteKey.{RouteKey}
use Rattle.umh_select.specs.Edges.{cost_at}
use Rattle.umh_select.specs.Routes.{Routes, at_length, chosen, is_attached_place, is_learned_place, known_from, known_here, origin_of}
use Rattle.umh_select.proofs.ChosenLemmas.{no_site, remote_is, site_is, unmarked}
use Rattle.umh_select.specs.Order.{key_cmp}
use Rattle.mv_base.proofs.SortedMaps.{entries_of}
use Rattle.umh_select.proofs.umh.Umh.choose_at.Goals as goal

pub returns-then-not-self-from-clause-none : goal.returns-then-not-self-from-clause-none
returns-then-not-self-from-clause-none c =
    let k : slice_index_or c.self.inside.lengths c.args.bits false ≡ false = search rules in
    λ _. (
      unmarked is_attached_place c.self.inside.lengths c.self.inside.attached.entries c.self.invariant.3 c.args.source c.args.bits k
          c.args.self.now.attached
          (sym (ap (λ (r : Routes). entries r.attached) c.self.view_is) ∙ entries_of key_cmp c.self.inside.attached.entries c.self.invariant.1),
      unmarked is_learned_place c.self.inside.lengths c.self.inside.learned.entries c.self.invariant.2 c.args.source c.args.bits k
          c.args.self.now.learned
          (sym (ap (λ (r : Routes). entries r.learned) c.self.view_is) ∙ entries_of key_cmp c.self.inside.learned.entries c.self.invariant.0),
    )

pub returns-then-not-self-from-clause-route : goal.returns-then-not-self-from-clause-route
returns-then-not-self-from-clause-route c =
    let k : slice_index_or c.self.inside.lengths c.args.bits false ≡ false = search rules in
    let here =
    unmarked is_attached_place c.self.inside.lengths c.self.inside.attached.entries c.self.invariant.3 c.args.source c.args.bits k
    c.args.self.now.attached
    (sym (ap (λ (r : Routes). entries r.attached) c.self.view_is) ∙ entries_of key_cmp c.self.inside.attached.entries c.self.invariant.1) in
    let from =
    unmarked is_learned_place c.self.inside.lengths c.self.inside.learned.entries c.self.invariant.2 c.args.source c.args.bits k
    c.args.self.now.learned
    (sym (ap (λ (r : Routes). entries r.learned) c.self.view_is) ∙ entries_of key_cmp c.self.inside.learned.entries c.self.invariant.0) in
    λ cost costs. sym (λ i. chosen c.args.self.now.learned
    (best_route (cost_at c.args.self.now c.args.source c.args.group c.args.bits cost) (map known_here (here i) ++ map known_from (from i))
    c.args.source))

pub returns-then-not-self-from-clause-origin : goal.returns-then-not-self-from-clause-origin
returns-then-not-self-from-clause-origin c =
    let k : slice_index_or c.self.inside.lengths c.args.bits false ≡ false = search rules in
    let here =
    unmarked is_attached_place c.self.inside.lengths c.self.inside.attached.entries c.self.invariant.3 c.args.source c.args.bits k
    c.args.self.now.attached
    (sym (ap (λ (r : Routes). entries r.attached) c.self.view_is) ∙ entries_of key_cmp c.self.inside.attached.entries c.self.invariant.1) in
    let from =
    unmarked is_learned_place c.self.inside.lengths c.self.inside.learned.entries c.self.invariant.2 c.args.source c.args.bits k
    c.args.self.now.learned
    (sym (ap (λ (r : Routes). entries r.learned) c.self.view_is) ∙ entries_of key_cmp c.self.inside.learned.entries c.self.invariant.0) in
    λ cost costs. sym (λ i. option_map (λ (route : KnownRoute). route.origin)
    (best_route (cost_at c.args.self.now c.args.source c.args.group c.args.bits cost) (map known_here (here i) ++ map known_from (from i))
    c.args.source))

pub returns-in-Some-clause-route : goal.returns-in-Some-clause-route
returns-in-Some-clause-route c = λ cost costs.
    (site_is (cost_at c.args.self.now c.args.source c.args.group c.args.bits cost) c.args.source c.args.bits (entries c.args.self.now.attached)
    (entries c.args.self.now.learned) c.in-Some.site c.args.self.now.learned
    (sym c.site_at.ensures ∙ c.in-Some.is)).0

pub returns-in-Some-clause-origin : goal.returns-in-Some-clause-origin
returns-in-Some-clause-origin c = λ cost costs.
    (site_is (cost_at c.args.self.now c.args.source c.args.group c.args.bits cost) c.args.source c.args.bits (entries c.args.self.now.attached)
    (entries c.args.self.now.learned) c.in-Some.site c.args.self.now.learned
    (sym c.site_at.ensures ∙ c.in-Some.is)).1

pub returns-in-None-clause-route : goal.returns-in-None-clause-route
returns-in-None-clause-route c =
    let here = no_site (at_length c.args.source c.args.bits (entries c.args.self.now.attached)) (sym c.site_at.ensures ∙ c.in-None.is) in
    λ cost costs.
    let costs_at = cost_at c.args.self.now c.args.source c.args.group c.args.bits cost in
    c.remote_at.ensures.best cost costs
    ∙ ((remote_is costs_at c.self.inside.lengths c.self.inside.learned.entries c.self.invariant.0 c.self.invariant.2 c.args.self.now.learned
    (ap (λ (r : Routes). r.learned) c.self.view_is) c.args.source c.args.bits).0
    ∙ sym (ap (λ (l : List (RouteKey × SiteId)). chosen c.args.self.now.learned
    (best_route costs_at (map known_here l ++ map known_from (at_length c.args.source c.args.bits (entries c.args.self.now.learned)))
    c.args.source)) here))

pub returns-in-None-clause-origin : goal.returns-in-None-clause-origin
returns-in-None-clause-origin c =
    let here = no_site (at_length c.args.source c.args.bits (entries c.args.self.now.attached)) (sym c.site_at.ensures ∙ c.in-None.is) in
    λ cost costs.
    let costs_at = cost_at c.args.self.now c.args.source c.args.group c.args.bits cost in
    ap origin_of (c.remote_at.ensures.best cost costs)
    ∙ ((remote_is costs_at c.self.inside.lengths c.self.inside.learned.entries c.self.invariant.0 c.self.invariant.2 c.args.self.now.learned
    (ap (λ (r : Routes). r.learned) c.self.view_is) c.args.source c.args.bits).1
    ∙ sym (ap (λ (l : List (RouteKey × SiteId)). option_map (λ (route : KnownRoute). route.origin)
    (best_route costs_at (map known_here l ++ map known_from (at_length c.args.source c.args.bits (entries c.args.self.now.learned)))
    c.args.source)) here))
