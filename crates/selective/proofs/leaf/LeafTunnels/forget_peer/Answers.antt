use Rattle.std.proofs.Common.{rules, ◌≡◌, List, None, fold, not, filter, sym, ap, ◌∙◌}
use Rattle.std.specs.FinMap.{from_sorted}
use Rattle.std.proofs.lemmas.Map.Made.{filter_same_pairs}
use Rattle.selective.specs.declared.route_key.Learned.{Learned}
use Rattle.selective.specs.declared.route_key.RouteKey.{RouteKey}
use Rattle.selective.specs.Leaves.{Leaf, Routes, is_of_peer, without_peer}
use Rattle.selective.specs.Order.{route_cmp}
use Rattle.mv_base.proofs.SortedMaps.{entries_of}
use Rattle.selective.specs.Waiting.{earliest_with}
use Rattle.selective.proofs.WaitLemmas.{seen_noted}
use Rattle.selective.proofs.leaf.LeafTunnels.forget_peer.Goals as goal

pub returns : goal.returns
returns c =
    let left : c.retain.new.self.entries ≡ filter (λ (e : RouteKey × Learned). not (is_of_peer c.args.peer e)) c.self.inside.routes.entries =
    filter_same_pairs _ _ _ (λ k v b w g call. search rules) _ _ c.retain.ensures.filtered in
    let routes =
    ap from_sorted (left ∙ ap (filter (λ (e : RouteKey × Learned). not (is_of_peer c.args.peer e)))
    (sym (entries_of route_cmp c.self.inside.routes.entries c.self.invariant.0))) in
    ap (λ (r : Routes). record { delay = c.self.inside.delay; routes = r }) routes
    ∙ ap (λ (l : Leaf). record { delay = l.delay; routes = without_peer c.args.peer l.routes }) c.self.view_is

pub invariant_of-self : goal.invariant_of-self
invariant_of-self c = (
  c.retain.ensures.ordered,
  seen_noted c.earliest_of-self-inside.result (from_sorted c.retain.new.self.entries)
      (c.earliest_of-self-inside.ensures ∙ ap (λ (es : List (RouteKey × Learned)). fold earliest_with None es)
      (sym (entries_of route_cmp c.retain.new.self.entries c.retain.ensures.ordered))),
)
