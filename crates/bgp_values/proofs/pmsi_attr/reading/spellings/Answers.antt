use Rattle.bgp_values.proofs.pmsi_attr.PmsiLemmas.{one_value, written_spells}
use Rattle.bgp_values.proofs.pmsi_attr.reading.spellings.Goals as goal

pub returns-clause-one : goal.returns-clause-one
returns-clause-one c = one_value

pub returns-clause-written : goal.returns-clause-written
returns-clause-written c = written_spells
