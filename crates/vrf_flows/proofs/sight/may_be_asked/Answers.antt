use Rattle.std.proofs.Common.{sym, ◌∙◌}
use Rattle.std.proofs.lemmas.Bool.{not-false}
use Rattle.vrf_flows.proofs.NamedLemmas.{none-asking}
use Rattle.vrf_flows.proofs.sight.may_be_asked.Goals as goal

pub returns-else-not-is_empty : goal.returns-else-not-is_empty
returns-else-not-is_empty c = λ h.
    none-asking c.listed-joined.result.now c.listed-shared.result.now c.args.entries.now c.args.flow (sym c.is_empty.ensures ∙ c.if-not-is_empty.false)
    (sym c.is_empty-else-not-is_empty.ensures ∙ not-false _ h) c.listed-joined.ensures c.listed-shared.ensures
