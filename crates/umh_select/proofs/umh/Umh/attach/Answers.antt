use Rattle.std.proofs.Common.{ap, ◌∙◌}
use Rattle.std.specs.FinMap.{FinMap, from_sorted, insert}
use Rattle.mv_base.specs.declared.ids.SiteId.{SiteId}
use Rattle.umh_select.specs.Order.{key_cmp, key_total}
use Rattle.umh_select.specs.Routes.{Routes, key_here}
use Rattle.umh_select.proofs.OrderLemmas.{key_exact}
use Rattle.mv_base.proofs.SortedMaps.{inserted}
use Rattle.umh_select.proofs.umh.Umh.attach.Goals as goal

pub returns-clause-attached : goal.returns-clause-attached
returns-clause-attached c =
    let key = key_here c.args.prefix in
    let map =
    inserted key_cmp key_total key_exact c.self.inside.attached.entries c.insert.new.self.entries key c.args.site c.self.invariant.1
    c.insert.ensures.ordered c.in_ok-insert.ensures.updates.0 in
    ap (λ (m : FinMap key_cmp SiteId). record { rule = c.self.inside.rule; learned = from_sorted c.self.inside.learned.entries; attached = m }) map
    ∙ ap (λ (r : Routes). record r { attached = insert r.attached key c.args.site }) c.self.view_is
