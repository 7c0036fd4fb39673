use Rattle.std.proofs.Common.{ap, sym, ◌∙◌}
use Rattle.std.specs.FinMap.{entries}
use Rattle.umh_select.specs.Routes.{Routes, is_attached_place, is_learned_place}
use Rattle.umh_select.proofs.ChosenLemmas.{unmarked}
use Rattle.umh_select.specs.Order.{key_cmp}
use Rattle.mv_base.proofs.SortedMaps.{entries_of}
use Rattle.umh_select.proofs.umh.Umh.lengths.Goals as goal

pub returns-clause-none : goal.returns-clause-none
returns-clause-none c = λ source bits h. (
  unmarked is_attached_place c.self.inside.lengths c.self.inside.attached.entries c.self.invariant.3 source bits (c.self.invariant.4.none bits h)
      c.args.self.now.attached
      (sym (ap (λ (r : Routes). entries r.attached) c.self.view_is) ∙ entries_of key_cmp c.self.inside.attached.entries c.self.invariant.1),
  unmarked is_learned_place c.self.inside.lengths c.self.inside.learned.entries c.self.invariant.2 source bits (c.self.invariant.4.none bits h)
      c.args.self.now.learned
      (sym (ap (λ (r : Routes). entries r.learned) c.self.view_is) ∙ entries_of key_cmp c.self.inside.learned.entries c.self.invariant.0),
)
