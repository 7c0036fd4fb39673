use Rattle.edge_tables.proofs.taken_tables.KeyLemmas.{selective_one}
use Rattle.edge_tables.proofs.taken_tables.laws.selective_keys_are_one.Goals as goal

pub returns : goal.returns
returns c = selective_one
