use Rattle.bgp_messages.proofs.bgp_update.ReadsBack.{written_spells, written_fed}
use Rattle.bgp_messages.proofs.bgp_update.laws.reads_back.Goals as goal

pub returns-clause-spelled : goal.returns-clause-spelled
returns-clause-spelled c = written_spells

pub returns-clause-fed : goal.returns-clause-fed
returns-clause-fed c = written_fed
