use Rattle.customer_laws.proofs.Counterparts.{has_counterpart}
use Rattle.customer_laws.proofs.laws.datagrams_have_counterparts.Goals as goal

pub returns : goal.returns
returns c = has_counterpart
