use Rattle.selective_defs.proofs.TransmittedLemmas.{transmitted_when, inclusive_when}
use Rattle.selective_defs.proofs.laws.transmitted_is.Goals as goal

pub returns-clause-selective : goal.returns-clause-selective
returns-clause-selective c = transmitted_when

pub returns-clause-inclusive : goal.returns-clause-inclusive
returns-clause-inclusive c = inclusive_when
