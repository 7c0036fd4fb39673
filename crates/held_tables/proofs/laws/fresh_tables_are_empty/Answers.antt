use Rattle.held_tables.proofs.StartLemmas.{fresh_empty}
use Rattle.held_tables.proofs.laws.fresh_tables_are_empty.Goals as goal

pub returns : goal.returns
returns c = fresh_empty
