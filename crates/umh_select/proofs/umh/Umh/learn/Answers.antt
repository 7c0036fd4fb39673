use Rattle.std.proofs.Common.{ap, ◌∙◌}
use Rattle.std.specs.FinMap.{FinMap, from_sorted, insert}
use Rattle.umh_select.specs.declared.route.Held.{Held}
use Rattle.umh_select.specs.Order.{key_cmp, key_total}
use Rattle.umh_select.specs.Routes.{Routes, held_of, key_from}
use Rattle.umh_select.proofs.OrderLemmas.{key_exact}
use Rattle.mv_base.proofs.SortedMaps.{inserted}
use Rattle.umh_select.proofs.umh.Umh.learn.Goals as goal

pub returns-clause-learned : goal.returns-clause-learned
returns-clause-learned c =
    let key = key_from c.args.peer c.args.route.rd c.args.route.prefix in
    let held = held_of c.args.route in
    let map =
    inserted key_cmp key_total key_exact c.self.inside.learned.entries c.insert.new.self.entries key held c.self.invariant.0
    c.insert.ensures.ordered c.in_ok-insert.ensures.updates.0 in
    ap (λ (m : FinMap key_cmp Held). record { rule = c.self.inside.rule; learned = m; attached = from_sorted c.self.inside.attached.entries }) map
    ∙ ap (λ (r : Routes). record r { learned = insert r.learned key held }) c.self.view_is
