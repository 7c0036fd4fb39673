use Rattle.edge_words.proofs.calm_laws.Tables.{calm_tables}
use Rattle.edge_words.proofs.calm_laws.laws.calm_tables_are_equal.Goals as goal

pub returns : goal.returns
returns c = calm_tables
