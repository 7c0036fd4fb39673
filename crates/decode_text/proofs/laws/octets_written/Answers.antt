use Rattle.decode_text.proofs.HexLaws.{even_text, octets_exact, fault_exact}
use Rattle.decode_text.proofs.laws.octets_written.Goals as goal

pub returns-clause-even : goal.returns-clause-even
returns-clause-even c = even_text

pub returns-clause-octets : goal.returns-clause-octets
returns-clause-octets c = octets_exact

pub returns-clause-fault : goal.returns-clause-fault
returns-clause-fault c = fault_exact
