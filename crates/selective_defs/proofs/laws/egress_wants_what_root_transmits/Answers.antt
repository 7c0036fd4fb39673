use Rattle.selective_defs.proofs.WantedLemmas.{some_wanted, each_wanted}
use Rattle.selective_defs.proofs.laws.egress_wants_what_root_transmits.Goals as goal

pub returns-clause-some : goal.returns-clause-some
returns-clause-some c = some_wanted

pub returns-clause-each : goal.returns-clause-each
returns-clause-each c = each_wanted
