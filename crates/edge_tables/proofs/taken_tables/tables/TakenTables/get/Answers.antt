use Rattle.std.proofs.Common.{Option, sym, ap, ◌∙◌}
use Rattle.std.specs.FinMap.{get}
use Rattle.mv_base.specs.Number.{◌>>?◌}
use Rattle.edge_defs.specs.Edge.{Taken}
use Rattle.edge_tables.proofs.taken_tables.MapLemmas.{none_there, some_there}
use Rattle.edge_tables.proofs.taken_tables.tables.TakenTables.get.Goals as goal

pub returns-in-None-clause-route : goal.returns-in-None-clause-route
returns-in-None-clause-route c =
    sym (ap (λ (o : Option Taken). o >>? λ taken. get taken c.args.key.now)
    (none_there c.self.inside.slots.entries c.args.self.now c.args.peer c.self.view_is c.in-None.ensures.value))

pub returns-in-Some-clause-route : goal.returns-in-Some-clause-route
returns-in-Some-clause-route c =
    c.get-in-Some.ensures
    ∙ sym (ap (λ (o : Option Taken). o >>? λ taken. get taken c.args.key.now)
    (some_there c.self.inside.slots.entries c.args.self.now c.args.peer c.self.view_is c.in-Some.table.now c.in-Some.ensures.value))
