use Rattle.std.proofs.Common.{sym, subst, ◌∙◌}
use Rattle.std.specs.FinMap.{insert}
use Rattle.edge_tables.specs.taken_tables.Slots.{taken_in, tables_of}
use Rattle.edge_tables.specs.taken_tables.Tables.{AreSpelled, IsSpelled}
use Rattle.edge_tables.proofs.taken_tables.MapLemmas.{empty_spelled, inserted, table_spelled}
use Rattle.edge_tables.proofs.taken_tables.tables.TakenTables.raise.Goals as goal

pub invariant_of-self-2 : goal.invariant_of-self-2
invariant_of-self-2 c =
    let old = c.self.inside.slots.entries in
    subst AreSpelled (sym (inserted old c.insert.new.self.entries c.args.peer c.of.result c.in_ok-insert.ensures.updates.0))
    (table_spelled (tables_of old) c.args.peer (taken_in c.of.result) c.self.invariant (subst IsSpelled (sym c.of.ensures) empty_spelled))

pub returns-clause-raised : goal.returns-clause-raised
returns-clause-raised c =
    inserted c.self.inside.slots.entries c.insert.new.self.entries c.args.peer c.of.result c.in_ok-insert.ensures.updates.0
    ∙ (λ i. insert (c.self.view_is i) c.args.peer (c.of.ensures i))
