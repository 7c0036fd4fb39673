use Rattle.core_pcap.proofs.Files.{tells_one, written_spells}
use Rattle.core_pcap.proofs.reading.spellings.Goals as goal

pub returns-clause-one : goal.returns-clause-one
returns-clause-one c = tells_one

pub returns-clause-written : goal.returns-clause-written
returns-clause-written c = written_spells
