use Rattle.std.proofs.Common.{◌∙◌, ap}
use Rattle.pim_defs.specs.declared.expiry.Expiry.{Expiry}
use Rattle.std.specs.Prelude.{Option}
use Rattle.pim_state.specs.Plan.{then_of}
use Rattle.pim_state.proofs.PlanLemmas.{plan-one}
use Rattle.pim_state.proofs.arrival.Arrival.plan.Goals as goal

pub returns-clause-each : goal.returns-clause-each
returns-clause-each c = λ at. plan-one c.args.self.now c.args.entries.now c.args.entry c.expiry_then.result _ _ at
    (c.expiry_then.ensures ∙ ap (λ (o : Option Expiry). then_of c.args.self.now c.args.entry o) (c.copied-old.ensures ∙ c.get.ensures.value))
    (c.in_ok-insert.ensures.updates.0 at)
