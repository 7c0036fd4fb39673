use Rattle.std.proofs.Common.{subst, sym, ◌∙◌}
use Rattle.edge_tables.specs.taken_tables.Running.{IsNoted}
use Rattle.edge_tables.specs.taken_tables.Slots.{Rows, taken_in}
use Rattle.edge_tables.proofs.taken_tables.WaitLemmas.{seen_noted, table_stays}
use Rattle.edge_tables.proofs.taken_tables.table.TakenTable.run_delays.Goals as goal

pub returns-then-not-is_any_over : goal.returns-then-not-is_any_over
returns-then-not-is_any_over c =
    table_stays c.args.vrfs.now c.args.delay c.args.now c.args.peer c.self.inside.earliest (taken_in c.args.self.now)
    (subst (λ (rows : Rows). IsNoted c.self.inside.earliest (taken_in rows)) c.self.view_is c.self.invariant) (sym c.is_any_over.ensures ∙ c.if-not-is_any_over.true)

pub invariant_of-self : goal.invariant_of-self
invariant_of-self c = seen_noted c.earliest_of-self-inside.result (taken_in c.run_routes.new.routes) c.earliest_of-self-inside.ensures
