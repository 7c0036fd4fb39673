use Rattle.edge_tables.proofs.taken_tables.KeyLemmas.{active_one}
use Rattle.edge_tables.proofs.taken_tables.laws.active_keys_are_one.Goals as goal

pub returns : goal.returns
returns c = active_one
