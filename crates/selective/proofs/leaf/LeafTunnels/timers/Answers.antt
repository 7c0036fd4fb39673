use Rattle.std.proofs.Common.{rules, ◌≡◌, List, None, fold, map, sym, ap, ◌∙◌}
use Rattle.std.specs.FinMap.{from_sorted}
use Rattle.std.proofs.lemmas.Map.Made.{map_same_pairs}
use Rattle.selective.specs.declared.route_key.Learned.{Learned}
use Rattle.selective.specs.declared.route_key.RouteKey.{RouteKey}
use Rattle.selective.specs.Leaves.{Leaf, Routes, routes_run, run_due}
use Rattle.selective.specs.Order.{route_cmp}
use Rattle.mv_base.proofs.SortedMaps.{entries_of}
use Rattle.selective.specs.Waiting.{earliest_with}
use Rattle.selective.proofs.WaitLemmas.{seen_noted}
use Rattle.selective.proofs.leaf.LeafTunnels.timers.Goals as goal

pub returns : goal.returns
returns c =
    let run : c.retain.new.self.entries ≡ map (λ (e : RouteKey × Learned). (e.0, run_due c.self.inside.delay c.args.now e.1))
    c.self.inside.routes.entries =
    map_same_pairs _ _ _ (λ k v b w g call. search rules) _ _ c.retain.ensures.filtered in
    let routes =
    ap from_sorted (run ∙ ap (map (λ (e : RouteKey × Learned). (e.0, run_due c.self.inside.delay c.args.now e.1)))
    (sym (entries_of route_cmp c.self.inside.routes.entries c.self.invariant.0))) in
    ap (λ (r : Routes). record { delay = c.self.inside.delay; routes = r }) routes
    ∙ ap (λ (l : Leaf). record { delay = l.delay; routes = routes_run l.delay c.args.now l.routes }) c.self.view_is

pub invariant_of-self : goal.invariant_of-self
invariant_of-self c = (
  c.retain.ensures.ordered,
  seen_noted c.earliest_of-self-inside.result (from_sorted c.retain.new.self.entries)
      (c.earliest_of-self-inside.ensures ∙ ap (λ (es : List (RouteKey × Learned)). fold earliest_with None es)
      (sym (entries_of route_cmp c.retain.new.self.entries c.retain.ensures.ordered))),
)
