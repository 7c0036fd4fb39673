use Rattle.std.proofs.Common.{List, ap, ◌∙◌, ◌≡◌}
use Rattle.std.specs.FinMap.{empty, from_sorted}
use Rattle.mv_base.specs.declared.ids.SiteId.{SiteId}
use Rattle.umh_select.specs.declared.key.RouteKey.{RouteKey}
use Rattle.umh_select.specs.declared.route.Held.{Held}
use Rattle.umh_select.specs.Order.{key_cmp}
use Rattle.mv_base.proofs.SortedMaps.{empty_map}
use Rattle.umh_select.proofs.umh.Umh.of.Goals as goal

pub returns : goal.returns
returns c =
    let learned : from_sorted {R = key_cmp} c.new.result.entries ≡ empty =
    ap (λ (es : List (RouteKey × Held)). from_sorted es) c.new.ensures.empty ∙ empty_map key_cmp in
    let attached : from_sorted {R = key_cmp} c.new-2.result.entries ≡ empty =
    ap (λ (es : List (RouteKey × SiteId)). from_sorted es) c.new-2.ensures.empty ∙ empty_map key_cmp in
    λ i. record { rule = c.args.rule; learned = learned i; attached = attached i }
