use Rattle.std.proofs.Common.{Some, sym, ap, ◌∙◌}
use Rattle.std.specs.Option.{option_map}
use Rattle.std.specs.FinMap.{entries}
use Rattle.edge_defs.specs.Edge.{Taken}
use Rattle.edge_tables.proofs.taken_tables.MapLemmas.{none_there, some_there}
use Rattle.edge_tables.proofs.taken_tables.tables.TakenTables.entries.Goals as goal

pub returns-in-None-clause-entries : goal.returns-in-None-clause-entries
returns-in-None-clause-entries c =
    sym (ap (option_map (λ (taken : Taken). entries taken))
    (none_there c.self.inside.slots.entries c.args.self.now c.args.peer c.self.view_is c.in-None.ensures.value))

pub returns-in-Some-clause-entries : goal.returns-in-Some-clause-entries
returns-in-Some-clause-entries c =
    ap (λ rows. Some rows) c.iter.ensures
    ∙ sym (ap (option_map (λ (taken : Taken). entries taken))
    (some_there c.self.inside.slots.entries c.args.self.now c.args.peer c.self.view_is c.in-Some.table.now c.in-Some.ensures.value))
