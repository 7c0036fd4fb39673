use Rattle.held_tables.proofs.JoinLemmas.{changed_alike}
use Rattle.held_tables.proofs.laws.changed_flows_tell_joins.Goals as goal

pub returns : goal.returns
returns c = changed_alike
