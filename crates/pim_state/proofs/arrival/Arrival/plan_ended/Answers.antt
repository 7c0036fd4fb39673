use Rattle.std.proofs.Common.{◌≡◌, Bool, OnOk, sym, ap, subst, ◌∙◌}
use Rattle.indexmap.specs.IndexMap.{get}
use Rattle.pim_state.specs.Plan.{is_at, told_at}
use Rattle.pim_state.proofs.PlanLemmas.{ended-one, kept-one}
use Rattle.pim_state.proofs.arrival.Arrival.plan_ended.Goals as goal

pub returns-then-ends-clause-each : goal.returns-then-ends-clause-each
returns-then-ends-clause-each c = λ other.
    subst (λ (b : Bool). OnOk c.plan.result (get is_at c.plan.new.changes other
    ≡ told_at c.args.self.now c.args.entries.now b (get is_at c.args.changes.now other) other))
    (ended-one c.args.self.now c.args.entries.now c.args.at.now other (sym c.ends.ensures ∙ c.if-ends.true)) (c.plan.ensures.each other)

pub returns-else-ends-clause-each : goal.returns-else-ends-clause-each
returns-else-ends-clause-each c = λ other.
    sym (ap (λ (b : Bool). told_at c.args.self.now c.args.entries.now b (get is_at c.args.changes.now other) other)
    (kept-one c.args.self.now c.args.entries.now c.args.at.now other (sym c.ends.ensures ∙ c.if-ends.false)))
