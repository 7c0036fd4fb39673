use Rattle.std.proofs.Common.{ap, sym, ◌∙◌}
use Rattle.std.specs.FinMap.{len}
use Rattle.pim_defs.specs.Entries.{Entries}
use Rattle.pim_state.proofs.MapLemmas.{length-map}
use Rattle.pim_state.proofs.downstream.Downstream.entries.Goals as goal

pub returns-clause-count : goal.returns-clause-count
returns-clause-count c =
    c.len.ensures.len ∙ (sym (length-map c.self.inside.entries.entries c.len.ensures.unique) ∙ ap (λ (m : Entries). len m) c.self.view_is)
