use Rattle.pim_joinprune.proofs.WritingLemmas.{one_value, written_spells}
use Rattle.pim_joinprune.proofs.reading.spellings.Goals as goal

pub returns-clause-one : goal.returns-clause-one
returns-clause-one c = one_value

pub returns-clause-written : goal.returns-clause-written
returns-clause-written c = written_spells

pub returns-clause-whole : goal.returns-clause-whole
returns-clause-whole c = λ message text s. s.spelled.is
