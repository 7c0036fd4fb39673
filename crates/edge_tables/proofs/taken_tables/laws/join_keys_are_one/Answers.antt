use Rattle.edge_tables.proofs.taken_tables.KeyLemmas.{join_one}
use Rattle.edge_tables.proofs.taken_tables.laws.join_keys_are_one.Goals as goal

pub returns : goal.returns
returns c = join_one
