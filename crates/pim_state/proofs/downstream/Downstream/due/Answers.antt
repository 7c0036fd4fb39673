use Rattle.std.proofs.Common.{List, ap, sym, ◌∙◌, not, count_by}
use Rattle.pim_defs.specs.declared.expiry.Expiry.{Expiry}
use Rattle.pim_defs.specs.Expiry.{is_after}
use Rattle.pim_defs.specs.Entries.{Entries, due}
use Rattle.pim_state.proofs.MapLemmas.{count-map}
use Rattle.pim_state.proofs.downstream.Downstream.due.Goals as goal

pub returns : goal.returns
returns c =
    let ended = λ (expiry : Expiry). not (is_after expiry c.args.now) in
    c.count_due.ensures ∙ (ap (λ (l : List Expiry). count_by ended l) (c.as_slice.ensures ∙ c.values.ensures.rest)
    ∙ (sym (count-map ended c.self.inside.entries.entries c.self.invariant.0) ∙ ap (λ (m : Entries). due m c.args.now) c.self.view_is))
