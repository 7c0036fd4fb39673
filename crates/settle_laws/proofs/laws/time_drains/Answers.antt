use Rattle.settle_laws.proofs.Times.{run_ticks, settle_drains}
use Rattle.settle_laws.proofs.laws.time_drains.Goals as goal

pub returns-clause-next : goal.returns-clause-next
returns-clause-next c cores script events trace old new line count acts run lt e =
    run_ticks script.scenario cores events trace old new line count acts run lt e

pub returns-clause-settled : goal.returns-clause-settled
returns-clause-settled c old new line acts none e = settle_drains old line acts new none e
