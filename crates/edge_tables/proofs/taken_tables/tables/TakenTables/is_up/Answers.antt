use Rattle.edge_tables.proofs.taken_tables.MapLemmas.{up_of}
use Rattle.edge_tables.proofs.taken_tables.tables.TakenTables.is_up.Goals as goal

pub returns : goal.returns
returns c = up_of c.self.inside.slots.entries c.args.self.now c.args.peer c.self.view_is c.contains_key.result c.contains_key.ensures
