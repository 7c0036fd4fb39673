use Rattle.network_laws.proofs.ready_laws.Counted.{told_unready}
use Rattle.network_laws.proofs.ready_laws.laws.unready_is_told_by_the_events.Goals as goal

pub returns : goal.returns
returns c = told_unready
