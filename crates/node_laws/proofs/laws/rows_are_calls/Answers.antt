use Rattle.node_laws.proofs.RowLemmas.{part_thereafter, lacks_after}
use Rattle.node_laws.proofs.laws.rows_are_calls.Goals as goal

pub returns : goal.returns
returns c = record { made = part_thereafter; lacks = lacks_after }
