use Rattle.pim_joinprune.proofs.pim_laws.DecodingLemmas.{read_spelled, spelled_read, read_first, first_read}
use Rattle.pim_joinprune.proofs.pim_laws.reading.decoding.Goals as goal

pub returns-clause-read : goal.returns-clause-read
returns-clause-read c = read_spelled

pub returns-clause-spelled : goal.returns-clause-spelled
returns-clause-spelled c = spelled_read

pub returns-clause-fault : goal.returns-clause-fault
returns-clause-fault c = read_first

pub returns-clause-first : goal.returns-clause-first
returns-clause-first c = first_read
