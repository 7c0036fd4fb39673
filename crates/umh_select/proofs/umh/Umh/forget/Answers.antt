use Rattle.std.proofs.Common.{ap, ◌∙◌}
use Rattle.std.specs.FinMap.{FinMap, from_sorted, remove}
use Rattle.umh_select.specs.declared.route.Held.{Held}
use Rattle.umh_select.specs.Order.{key_cmp, key_total}
use Rattle.umh_select.specs.Routes.{Routes, key_from}
use Rattle.umh_select.proofs.OrderLemmas.{key_exact}
use Rattle.mv_base.proofs.SortedMaps.{removed}
use Rattle.umh_select.proofs.umh.Umh.forget.Goals as goal

pub returns : goal.returns
returns c =
    let key = key_from c.args.peer c.args.rd c.args.prefix in
    let map =
    removed key_cmp key_total key_exact c.self.inside.learned.entries c.remove.new.self.entries key c.self.invariant.0 c.remove.ensures.ordered
    c.remove.ensures.updates.0 in
    ap (λ (m : FinMap key_cmp Held). record { rule = c.self.inside.rule; learned = m; attached = from_sorted c.self.inside.attached.entries }) map
    ∙ ap (λ (r : Routes). record r { learned = remove r.learned key }) c.self.view_is
