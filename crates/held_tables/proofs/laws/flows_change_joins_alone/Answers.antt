use Rattle.held_tables.proofs.JoinLemmas.{joins, others}
use Rattle.held_tables.proofs.laws.flows_change_joins_alone.Goals as goal

pub returns : goal.returns
returns c = record { others = others; joins = joins }
