use Rattle.std.proofs.Common.{rules, ◌≡◌, not, filter, sym, ap, ◌∙◌}
use Rattle.std.specs.FinMap.{FinMap, from_sorted}
use Rattle.std.proofs.lemmas.Map.Made.{filter_same_pairs}
use Rattle.umh_select.specs.declared.key.RouteKey.{RouteKey}
use Rattle.umh_select.specs.declared.route.Held.{Held}
use Rattle.umh_select.specs.Order.{key_cmp}
use Rattle.umh_select.specs.Routes.{Routes, is_from, without_peer}
use Rattle.mv_base.proofs.SortedMaps.{entries_of}
use Rattle.umh_select.proofs.umh.Umh.forget_peer.Goals as goal

pub returns : goal.returns
returns c =
    let left : c.retain.new.self.entries ≡ filter (λ (e : RouteKey × Held). not (is_from c.args.peer e.0.place)) c.self.inside.learned.entries =
    filter_same_pairs _ _ _ (λ k v b w g call. search rules) _ _ c.retain.ensures.filtered in
    let map =
    ap from_sorted (left ∙ ap (filter (λ (e : RouteKey × Held). not (is_from c.args.peer e.0.place)))
    (sym (entries_of key_cmp c.self.inside.learned.entries c.self.invariant.0))) in
    ap (λ (m : FinMap key_cmp Held). record { rule = c.self.inside.rule; learned = m; attached = from_sorted c.self.inside.attached.entries }) map
    ∙ ap (λ (r : Routes). record r { learned = without_peer c.args.peer r.learned }) c.self.view_is
