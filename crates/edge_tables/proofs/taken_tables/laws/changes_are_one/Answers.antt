use Rattle.edge_tables.proofs.taken_tables.MapLemmas.{one_after_another}
use Rattle.edge_tables.proofs.taken_tables.laws.changes_are_one.Goals as goal

pub returns : goal.returns
returns c = one_after_another
