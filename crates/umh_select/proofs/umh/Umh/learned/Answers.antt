use Rattle.std.proofs.Common.{sym, ap, ◌∙◌}
use Rattle.std.specs.FinMap.{entries}
use Rattle.umh_select.specs.Order.{key_cmp}
use Rattle.umh_select.specs.Routes.{Routes}
use Rattle.mv_base.proofs.SortedMaps.{entries_of}
use Rattle.umh_select.proofs.umh.Umh.learned.Goals as goal

pub returns : goal.returns
returns c =
    sym (entries_of key_cmp c.self.inside.learned.entries c.self.invariant.0) ∙ ap (λ (r : Routes). entries r.learned) c.self.view_is
